-- What a start has made: its kept handles name each live object, and by their kinds which objects
-- there are.
use Rattle.std.specs.Prelude.{◌≡◌, ℕ, ◌+◌, ◌<◌, ◌≤◌, ◌==◌, Bool, true, false, cond, ◌&&◌, if◌then◌else◌, List, [], ◌∷◌, ◌++◌, length, map, slice_index, take}
use Rattle.std.specs.List.{list_all}
use Rattle.std.specs.declared.option.Option.{Option}
use Rattle.std.specs.declared.option.Option.TheVariants.{None, Some}
use Rattle.std.proofs.Common.{refl, sym, ap, ◌∙◌, arith, eqb-true}
use Rattle.std.proofs.lemmas.Bool.{and_parts}
use Rattle.bas_names.specs.declared.StreamName.TheVariants as stream
use Rattle.abi_calls.specs.declared.object.Object.TheVariants.{Process, Thread, Event, Stream, ReadEnd, WriteEnd}
use Rattle.abi_calls.specs.Objects.{Object, Objects, object_at, number_of, is_process, is_thread}
use Rattle.abi_calls.specs.Processes.{is_running}
use Rattle.abi_calls.proofs.Counts.{count_none}
use Rattle.libos_state.specs.declared.cont.Stage.{Stage}
use Rattle.libos_state.specs.declared.notes.Description.{Description}
use Rattle.libos_state.specs.declared.notes.Kind.{Kind}
use Rattle.libos_state.specs.declared.notes.Kind.TheVariants.{ConIn, ConOut, ConErr, File}
use Rattle.libos_state.specs.declared.notes.ProcessNote.{ProcessNote}
use Rattle.libos_state.specs.declared.notes.ThreadNote.{ThreadNote}
use Rattle.libos_state.specs.declared.state.LibOs.{LibOs}
use Rattle.libos_state.specs.Named.{Named, ObjectKind, AProcess, AThread, AnEvent, AStreamOf, AStream, ToClose, is_of, recorded, named_as, consoles, times_named}
use Rattle.libos_state.specs.Fits.{FitsObjects, FitsStart, is_to_name}
use Rattle.libos_state.proofs.Naming.{times_named-cons, kinds-kept}

-- ---- handles of kinds

-- The next end of the console.
abbrev pub console_kind : ℕ → Kind
console_kind opened = if opened == 0 then ConIn else (if opened == 1 then ConOut else ConErr)

pub named_as-console : (hs : List ℕ) (h : ℕ) → length hs < 3
    → named_as (hs ++ h ∷ []) consoles
    ≡ named_as hs consoles ++ (h, AStreamOf (console_kind (length hs))) ∷ []
named_as-console [] h few = refl
named_as-console (a ∷ []) h few = refl
named_as-console (a ∷ b ∷ []) h few = refl
named_as-console (a ∷ b ∷ c ∷ rest) h few = absurd (omega arith)

-- The last of four handles.
pub named_as-fourth : (hs : List ℕ) (k : ObjectKind) → length hs ≡ 4
    → named_as hs (consoles ++ k ∷ [])
    ≡ named_as (take 3 hs) consoles ++ (slice_index hs 3, k) ∷ []
named_as-fourth [] k long = absurd (omega arith)
named_as-fourth (a ∷ []) k long = absurd (omega arith)
named_as-fourth (a ∷ b ∷ []) k long = absurd (omega arith)
named_as-fourth (a ∷ b ∷ c ∷ []) k long = absurd (omega arith)
named_as-fourth (a ∷ b ∷ c ∷ d ∷ []) k long = refl
named_as-fourth (a ∷ b ∷ c ∷ d ∷ e ∷ rest) k long = absurd (omega arith)

pub list_all-named_as : (test : ObjectKind → Bool) (hs : List ℕ) (ks : List ObjectKind)
    → list_all test ks ≡ true → list_all (λ n. test n.1) (named_as hs ks) ≡ true
list_all-named_as test [] ks all = refl
list_all-named_as test (h ∷ hs) [] all = refl
list_all-named_as test (h ∷ hs) (k ∷ ks) all =
    let parts = and_parts (test k) (list_all test ks) all in
    (λ i. parts.0 i && list_all-named_as test hs ks parts.1 i)

-- ---- nothing is recorded

pub recorded-start : (os : LibOs) (o : Objects) (stage : Stage) → FitsStart os o stage
    → recorded os ≡ []
recorded-start os o stage start = λ i.
    map (λ (n : ProcessNote). (n.handle, AProcess)) (start.processes i) ++
    (map (λ (n : ThreadNote). (n.handle, AThread)) (start.threads i) ++
    (map (λ (n : ThreadNote). (n.event, AnEvent)) (start.threads i) ++
    map (λ (d : Description). (d.handle, AStreamOf d.kind)) (start.descriptions i)))

-- ---- objects of other kinds than those that are kept

-- Objects of these kinds fail a test.
pub record Excludes (kinds : ObjectKind → Bool) (test : Object → Bool) : Type 0 where
  pub fails : (k : ObjectKind) (x : Object) → kinds k ≡ true → is_of k (Some x) ≡ true
      → test x ≡ false

module _ (kinds : ObjectKind → Bool) (test : Object → Bool) (o : Objects)
    (excludes : Excludes kinds test) where
  named_fails : (names : List Named) (q : ℕ) (x : Object)
      → list_all (λ n. is_of n.1 (object_at o n.0)) names ≡ true
      → list_all (λ n. kinds n.1) names ≡ true → 1 ≤ times_named q names
      → object_at o q ≡ Some x → test x ≡ false
  named_fails [] q x are excluded some there = absurd (omega arith)
  named_fails ((h, k) ∷ names) q x are excluded some there =
      let is = and_parts (is_of k (object_at o h)) (list_all (λ n. is_of n.1 (object_at o n.0)) names) are in
      let out = and_parts (kinds k) (list_all (λ n. kinds n.1) names) excluded in
      elim (h == q) as (λ b. (h == q) ≡ b → times_named q ((h, k) ∷ names) ≡ cond b 1 0 + times_named q names → test x ≡ false) [
        | true ↦ λ here _. excludes.fails k x out.0 (sym (ap (is_of k) (ap (object_at o) (eqb-true h q here) ∙ there)) ∙ is.0)
        | false ↦ λ _ rest. named_fails names q x is.1 out.1 (omega arith) there
      ] refl (times_named-cons q h k names)

  -- Where nothing is recorded, and what is kept is of these kinds, no object passes the test.
  pub number_of-excluded : (os : LibOs) (names : List Named) → recorded os ≡ []
      → FitsObjects os o names None → list_all (λ n. kinds n.1) names ≡ true
      → number_of test o.live ≡ 0
  number_of-excluded os names none fits excluded =
      count_none test o.live (λ q x there. named_fails names q x (kinds-kept os o names None fits) excluded
      (let once = ap (λ (r : List Named). times_named q (r ++ names)) (sym none) ∙ fits.once q in
      let one : times_named q names ≡ 1 = once ∙ ap (λ y. if is_to_name None y then 1 else 0) there in omega arith) there)

-- Kinds that no process, no running one or no thread is of.
abbrev pub is_no_process : ObjectKind → Bool
is_no_process AProcess = false
is_no_process _ = true

abbrev pub is_no_thread : ObjectKind → Bool
is_no_thread AThread = false
is_no_thread _ = true

fails_process : (k : ObjectKind) (x : Object) → is_no_process k ≡ true → is_of k (Some x) ≡ true → is_process x ≡ false
fails_process AProcess x other is = absurd (cc)
fails_process AThread (Process s code) other is = absurd (cc)
fails_process AnEvent (Process s code) other is = absurd (cc)
fails_process (AStreamOf kind) (Process s code) other is = absurd (cc)
fails_process AStream (Process s code) other is = absurd (cc)
fails_process ToClose (Process s code) other is = absurd (cc)
fails_process k (Thread p context) other is = refl
fails_process k (Event set) other is = refl
fails_process k (Stream name) other is = refl
fails_process k (ReadEnd pipe) other is = refl
fails_process k (WriteEnd pipe) other is = refl

fails_thread : (k : ObjectKind) (x : Object) → is_no_thread k ≡ true → is_of k (Some x) ≡ true → is_thread x ≡ false
fails_thread AThread x other is = absurd (cc)
fails_thread AProcess (Thread p context) other is = absurd (cc)
fails_thread AnEvent (Thread p context) other is = absurd (cc)
fails_thread (AStreamOf kind) (Thread p context) other is = absurd (cc)
fails_thread AStream (Thread p context) other is = absurd (cc)
fails_thread ToClose (Thread p context) other is = absurd (cc)
fails_thread k (Process s code) other is = refl
fails_thread k (Event set) other is = refl
fails_thread k (Stream name) other is = refl
fails_thread k (ReadEnd pipe) other is = refl
fails_thread k (WriteEnd pipe) other is = refl

pub excludes-process : Excludes is_no_process is_process
excludes-process = record { fails = fails_process }

idle_where : (x : Object) → is_process x ≡ false → is_running x ≡ false
idle_where (Process s code) none = absurd (cc)
idle_where _ none = refl

pub excludes-running : Excludes is_no_process is_running
excludes-running = record { fails = λ k x other is. idle_where x (fails_process k x other is) }

pub excludes-thread : Excludes is_no_thread is_thread
excludes-thread = record { fails = fails_thread }

-- ---- the program's file

-- A file that is open.
pub record IsFile (x : Option Object) : Type 0 where
  pub name : List ℕ
  pub is : x ≡ Some (Stream (stream.File name))

file_of_kind : (x : Option Object) → is_of (AStreamOf File) x ≡ true → IsFile x
file_of_kind (Some (Stream (stream.File name))) is = record { name = name; is = refl }
file_of_kind _ is = absurd (cc)

-- What is said of the last of four handles.
last_of : (test : Named → Bool) (names : List Named) (n : Named) → list_all test (names ++ n ∷ []) ≡ true → test n ≡ true
last_of test [] n all = (and_parts (test n) true all).0
last_of test (m ∷ names) n all = last_of test names n (and_parts (test m) (list_all test (names ++ n ∷ [])) all).1

pub file_there : (os : LibOs) (o : Objects) (hs : List ℕ) → length hs ≡ 4 → FitsObjects os o (named_as hs (consoles ++ AStreamOf File ∷ [])) None
    → IsFile (object_at o (slice_index hs 3))
file_there os o hs long fits =
    let are = kinds-kept os o (named_as hs (consoles ++ AStreamOf File ∷ [])) None fits in
    let test : Named → Bool = λ n. is_of n.1 (object_at o n.0) in
    file_of_kind (object_at o (slice_index hs 3)) (last_of test (named_as (take 3 hs) consoles) (slice_index hs 3, AStreamOf File)
    (ap (list_all test) (sym (named_as-fourth hs (AStreamOf File) long)) ∙ are))
