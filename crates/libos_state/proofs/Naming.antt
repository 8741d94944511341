-- What is named: a live number is named once, by a record or by what a stage keeps, and what that says of the records.
use Rattle.std.specs.Prelude.{◌≡◌, ℕ, zero, suc, ◌+◌, ◌≤◌, ◌==◌, Bool, true, false, cond, not, List, [], ◌∷◌, ◌++◌, map, find, count_by, length, is_some}
use Rattle.std.specs.List.{list_all}
use Rattle.std.specs.declared.option.Option.{Option}
use Rattle.std.specs.declared.option.Option.TheVariants.{None, Some}
use Rattle.std.proofs.Common.{refl, sym, ap, subst, ◌∙◌, arith, eq-eqb, eqb-true, ne_eqb}
use Rattle.std.proofs.lemmas.Bool.{and_parts, and_from}
use Rattle.std.proofs.lemmas.List.Sums.{sum_by-append, sum_by-cons}
use Rattle.std.proofs.lemmas.List.Folds.{list_all-append, list_all-map}
use Rattle.rv_core.specs.declared.context.Context.{Context}
use Rattle.guest_space.specs.Space.{Space}
use Rattle.turn_sched.specs.Lists.{is_at}
use Rattle.turn_sched.proofs.ThreadLists.{list_all-weaker}
use Rattle.abi_calls.specs.declared.threads.Upcall.{Upcall}
use Rattle.abi_calls.specs.declared.object.Object.TheVariants.{Process, Thread, Event, Stream, ReadEnd, WriteEnd}
use Rattle.abi_calls.specs.Objects.{Object, Objects, object_at, running, is_thread_of, with_object, without_handles}
use Rattle.abi_calls.proofs.SoundChanges.{object_at-without_handles, object_at-left}
use Rattle.bas_items.proofs.NumberMaps.{get-insert, get-insert-same}
use Rattle.bas_names.specs.declared.StreamName.{StreamName}
use Rattle.libos_state.specs.declared.notes.Kind.{Kind}
use Rattle.libos_state.specs.declared.notes.Description.{Description}
use Rattle.libos_state.specs.declared.notes.ProcessNote.{ProcessNote}
use Rattle.libos_state.specs.declared.notes.ThreadNote.{ThreadNote}
use Rattle.libos_state.specs.declared.state.LibOs.{LibOs}
use Rattle.libos_state.specs.Records.{process_named, process_with, thread_with, thread_woken_by, description_with, tid_of, pid_of, pid_with}
use Rattle.libos_state.specs.Meaning.{caller_of}
use Rattle.libos_state.proofs.Distinct.{some_of}
use Rattle.libos_state.specs.Named.{Named, ObjectKind, AProcess, AThread, AnEvent, AStreamOf, AStream, ToClose, is_stream_of, is_of, recorded, named_as, times_named}
use Rattle.libos_state.specs.Fits.{FitsRecords, FitsObjects, is_alive, is_to_name, is_code, has_code, handle_in, is_home}

-- ---- lists: what is found, and how often a test is passed

one_if : (b : Bool) → b ≡ true → ◌≡◌ {A = ℕ} (cond b 1 0) 1
one_if b is = ap (λ x. cond x 1 0) is

zero_if : (b : Bool) → b ≡ false → ◌≡◌ {A = ℕ} (cond b 1 0) 0
zero_if b is = ap (λ x. cond x 1 0) is

module _ {X : Type 0} where
  pub find-passes : (p : X → Bool) (xs : List X) (x : X) → find p xs ≡ Some x → p x ≡ true
  find-passes p [] x is = absurd (cc)
  find-passes p (y ∷ ys) x is = elim (p y) as (λ b. p y ≡ b → cond b (Some y) (find p ys) ≡ Some x → p x ≡ true) [
    | true ↦ λ at same. let e : x ≡ y = cc in ap p e ∙ at
    | false ↦ λ at rest. find-passes p ys x rest
  ] refl is

  pub list_all-find : (test p : X → Bool) (xs : List X) (x : X) → list_all test xs ≡ true → find p xs ≡ Some x → test x ≡ true
  list_all-find test p [] x all is = absurd (cc)
  list_all-find test p (y ∷ ys) x all is =
      let parts = and_parts (test y) (list_all test ys) all in
      elim (p y) as (λ b. cond b (Some y) (find p ys) ≡ Some x → test x ≡ true) [
        | true ↦ λ same. let e : x ≡ y = cc in ap test e ∙ parts.0
        | false ↦ λ rest. list_all-find test p ys x parts.1 rest
      ] is

  pub count_by-cons : (p : X → Bool) (y : X) (ys : List X) → count_by p (y ∷ ys) ≡ cond (p y) 1 0 + count_by p ys
  count_by-cons p y ys = sum_by-cons (λ x. cond (p x) 1 0) y ys

  -- one that is found counts where it passes another test
  pub count_by-found : (p q : X → Bool) (xs : List X) (x : X) → find p xs ≡ Some x → q x ≡ true → 1 ≤ count_by q xs
  count_by-found p q [] x is passes = absurd (cc)
  count_by-found p q (y ∷ ys) x is passes = elim (p y) as (λ b. cond b (Some y) (find p ys) ≡ Some x → 1 ≤ count_by q (y ∷ ys)) [
    | true ↦ λ same.
        let e : x ≡ y = cc in
        omega (arith, one_if (q y) (ap q (sym e) ∙ passes), count_by-cons q y ys)
    | false ↦ λ rest. omega (arith, count_by-found p q ys x rest passes, count_by-cons q y ys)
  ] is

  pub find-uncounted : (p : X → Bool) (xs : List X) → count_by p xs ≡ 0 → find p xs ≡ None
  find-uncounted p [] none = refl
  find-uncounted p (y ∷ ys) none = elim (p y) as (λ b. cond b 1 0 + count_by p ys ≡ 0 → cond b (Some y) (find p ys) ≡ None) [
    | true ↦ λ zero. absurd (omega arith)
    | false ↦ λ zero. find-uncounted p ys (omega arith)
  ] (sym (count_by-cons p y ys) ∙ none)

  -- the only one that passes a test is the one that is found by it
  pub find-alone : (p q : X → Bool) (xs : List X) (x : X) → find p xs ≡ Some x → q x ≡ true → count_by q xs ≤ 1 → find q xs ≡ Some x
  find-alone p q [] x is passes once = absurd (cc)
  find-alone p q (y ∷ ys) x is passes once = elim (p y) as (λ b. cond b (Some y) (find p ys) ≡ Some x → find q (y ∷ ys) ≡ Some x) [
    | true ↦ λ same. let e : x ≡ y = cc in ap (λ b. cond b (Some y) (find q ys)) (ap q (sym e) ∙ passes) ∙ ap Some (sym e)
    | false ↦ λ rest. elim (q y) as (λ b. cond b 1 0 + count_by q ys ≤ 1 → cond b (Some y) (find q ys) ≡ Some x) [
      | true ↦ λ full. absurd (omega (arith, full, count_by-found p q ys x rest passes))
      | false ↦ λ few. find-alone p q ys x rest passes (omega (arith, few))
    ] (subst (λ n. n ≤ 1) (count_by-cons q y ys) once)
  ] is

  -- what each passes, by how often its key stands in the list
  pub list_all-counted : (key : X → ℕ) (test other : X → Bool) (xs : List X) →
      ((x : X) → 1 ≤ count_by (λ y. key y == key x) xs → test x ≡ true → other x ≡ true) → list_all test xs ≡ true → list_all other xs ≡ true
  list_all-counted key test other [] passes all = refl
  list_all-counted key test other (y ∷ ys) passes all =
      let parts = and_parts (test y) (list_all test ys) all in
      let here = one_if (key y == key y) (eq-eqb (key y) (key y) refl) in
      and_from (other y) (list_all other ys) (passes y (omega (arith, here, count_by-cons (λ z. key z == key y) y ys)) parts.0)
      (list_all-counted key test other ys (λ x counted. passes x (omega (arith, counted, count_by-cons (λ z. key z == key x) y ys))) parts.1)

  -- what each passes but the one that is found
  pub list_all-except : (p test other : X → Bool) (xs : List X) → count_by p xs ≤ 1 → ((x : X) → find p xs ≡ Some x → test x ≡ true → other x ≡ true)
      → ((x : X) → p x ≡ false → test x ≡ true → other x ≡ true) → list_all test xs ≡ true → list_all other xs ≡ true
  list_all-except p test other [] once found rest all = refl
  list_all-except p test other (y ∷ ys) once found rest all =
      let parts = and_parts (test y) (list_all test ys) all in
      elim (p y) as (λ b. p y ≡ b → cond b 1 0 + count_by p ys ≤ 1 → ((x : X) → cond b (Some y) (find p ys) ≡ Some x → test x ≡ true → other x ≡ true) → list_all other (y ∷ ys) ≡ true) [
        | true ↦ λ at full here.
            let none : find p ys ≡ None = find-uncounted p ys (omega (arith, full)) in
            and_from (other y) (list_all other ys) (here y refl parts.0)
            (list_all-except p test other ys (omega (arith, full)) (λ x is. absurd (let e : None ≡ Some x = sym none ∙ is in cc)) rest parts.1)
        | false ↦ λ at few here. and_from (other y) (list_all other ys) (rest y at parts.0) (list_all-except p test other ys (omega (arith, few)) here rest parts.1)
      ] refl (subst (λ n. n ≤ 1) (count_by-cons p y ys) once) found

-- ---- how often a number is named

pub times_named-append : (q : ℕ) (xs ys : List Named) → times_named q (xs ++ ys) ≡ times_named q xs + times_named q ys
times_named-append q xs ys = sum_by-append (λ (n : Named). cond (n.0 == q) 1 0) xs ys

pub times_named-cons : (q h : ℕ) (k : ObjectKind) (ys : List Named) → times_named q ((h, k) ∷ ys) ≡ cond (h == q) 1 0 + times_named q ys
times_named-cons q h k ys = count_by-cons (λ (n : Named). n.0 == q) (h, k) ys

pub times_named-map : {X : Type 0} (q : ℕ) (key : X → ℕ) (kind : X → ObjectKind) (xs : List X) →
    times_named q (map (λ x. (key x, kind x)) xs) ≡ count_by (λ x. key x == q) xs
times_named-map q key kind [] = refl
times_named-map q key kind (x ∷ xs) =
    times_named-cons q (key x) (kind x) (map (λ y. (key y, kind y)) xs)
    ∙ ap (λ n. cond (key x == q) 1 0 + n) (times_named-map q key kind xs)
    ∙ sym (count_by-cons (λ y. key y == q) x xs)

-- by the four lists of records
abbrev pub times_recorded : ℕ → LibOs → ℕ
times_recorded q os =
    count_by (λ (n : ProcessNote). n.handle == q) os.processes
    + (count_by (λ (n : ThreadNote). n.handle == q) os.threads
    + (count_by (λ (n : ThreadNote). n.event == q) os.threads
    + count_by (λ (d : Description). d.handle == q) os.descriptions))

pub times_named-recorded : (q : ℕ) (os : LibOs) → times_named q (recorded os) ≡ times_recorded q os
times_named-recorded q os =
    let processes : List Named = map (λ n. (n.handle, AProcess)) os.processes in
    let threads : List Named = map (λ n. (n.handle, AThread)) os.threads in
    let events : List Named = map (λ n. (n.event, AnEvent)) os.threads in
    let descriptions : List Named = map (λ d. (d.handle, AStreamOf d.kind)) os.descriptions in
    omega (
      arith,
      times_named-append q processes (threads ++ (events ++ descriptions)),
      times_named-append q threads (events ++ descriptions),
      times_named-append q events descriptions,
      times_named-map q (λ (n : ProcessNote). n.handle) (λ n. AProcess) os.processes,
      times_named-map q (λ (n : ThreadNote). n.handle) (λ n. AThread) os.threads,
      times_named-map q (λ (n : ThreadNote). n.event) (λ n. AnEvent) os.threads,
      times_named-map q (λ (d : Description). d.handle) (λ d. AStreamOf d.kind) os.descriptions,
    )

-- one more handle of a kind
pub named_as-push : (hs : List ℕ) (ks : List ObjectKind) (h : ℕ) (k : ObjectKind) → length hs ≡ length ks →
    named_as (hs ++ h ∷ []) (ks ++ k ∷ []) ≡ named_as hs ks ++ (h, k) ∷ []
named_as-push [] [] h k same = refl
named_as-push [] (j ∷ ks) h k same = absurd (omega arith)
named_as-push (g ∷ hs) [] h k same = absurd (omega arith)
named_as-push (g ∷ hs) (j ∷ ks) h k same = ap (λ names. (g, j) ∷ names) (named_as-push hs ks h k (omega arith))

-- ---- what is named at most once

module _ (os : LibOs) (o : Objects) (kept : List Named) (ending : Option ℕ) (fits : FitsObjects os o kept ending) where
  pub times_named-most : (q : ℕ) → times_named q (recorded os) + times_named q kept ≤ 1
  times_named-most q = elim (is_to_name ending (object_at o q)) as (λ b. times_named q (recorded os ++ kept) ≡ cond b 1 0 → times_named q (recorded os) + times_named q kept ≤ 1) [
    | true ↦ λ one. omega (arith, one, times_named-append q (recorded os) kept)
    | false ↦ λ none. omega (arith, none, times_named-append q (recorded os) kept)
  ] (fits.once q)

  pub times_recorded-most : (q : ℕ) → times_recorded q os ≤ 1
  times_recorded-most q = omega (arith, times_named-most q, times_named-recorded q os)

  -- a number that is kept, or that names nothing, has no record
  pub unrecorded-kept : (h : ℕ) → 1 ≤ times_named h kept → times_named h (recorded os) ≡ 0
  unrecorded-kept h is = omega (arith, times_named-most h)

  pub unrecorded-free : (h : ℕ) → object_at o h ≡ None → times_named h (recorded os) ≡ 0
  unrecorded-free h free =
      let none : times_named h (recorded os ++ kept) ≡ 0 = fits.once h ∙ zero_if (is_to_name ending (object_at o h)) (ap (is_to_name ending) free) in
      omega (arith, none, times_named-append h (recorded os) kept)

-- what has no record isn't found
pub record Unrecorded (os : LibOs) (h : ℕ) : Type 0 where
  pub process : process_with h os.processes ≡ None
  pub thread : thread_with h os.threads ≡ None
  pub woken : thread_woken_by h os.threads ≡ None
  pub description : description_with h os.descriptions ≡ None

pub unrecorded : (os : LibOs) (h : ℕ) → times_named h (recorded os) ≡ 0 → Unrecorded os h
unrecorded os h none = record {
  process = find-uncounted (λ (n : ProcessNote). n.handle == h) os.processes (omega (arith, times_named-recorded h os));
  thread = find-uncounted (λ (n : ThreadNote). n.handle == h) os.threads (omega (arith, times_named-recorded h os));
  woken = find-uncounted (λ (n : ThreadNote). n.event == h) os.threads (omega (arith, times_named-recorded h os));
  description = find-uncounted (λ (d : Description). d.handle == h) os.descriptions (omega (arith, times_named-recorded h os));
}

-- ---- what else names the same

-- An object passes what another passes.
pub record Alike (x y : Option Object) : Type 0 where
  pub kinds : (kind : ObjectKind) → is_of kind x ≡ true → is_of kind y ≡ true
  pub homes : (p : ℕ) → is_thread_of p x ≡ true → is_thread_of p y ≡ true
  pub codes : (code : Option ℕ) → is_code code x ≡ true → is_code code y ≡ true

pub Alike-same : (x y : Option Object) → y ≡ x → Alike x y
Alike-same x y same = record {
  kinds = λ kind is. ap (is_of kind) same ∙ is;
  homes = λ p is. ap (is_thread_of p) same ∙ is;
  codes = λ code is. ap (is_code code) same ∙ is;
}

none_of : (kind : ObjectKind) → is_of kind None ≡ true → ⊥
none_of AProcess is = cc
none_of AThread is = cc
none_of AnEvent is = cc
none_of (AStreamOf kind) is = cc
none_of AStream is = cc
none_of ToClose is = cc

no_code : (code : Option ℕ) → is_code code None ≡ true → ⊥
no_code None is = cc
no_code (Some code) is = cc

-- nothing passes nothing
pub Alike-none : (y : Option Object) → Alike None y
Alike-none y = record {
  kinds = λ kind is. absurd (none_of kind is);
  homes = λ p is. absurd (cc);
  codes = λ code is. absurd (no_code code is);
}

has_code-alike : (ending : Option ℕ) (n : ProcessNote) (x y : Option Object) → Alike x y → has_code ending n x ≡ true → has_code ending n y ≡ true
has_code-alike ending n x y alike is = elim (is_at n.handle ending) as (λ b. cond b (is_some (running x)) (is_code n.code x) ≡ true → cond b (is_some (running y)) (is_code n.code y) ≡ true) [
  | true ↦ λ runs. alike.codes None runs
  | false ↦ λ code. alike.codes n.code code
] is

-- A name is of its kind.
abbrev pub is_named : Objects → Named → Bool
is_named o n = is_of n.1 (object_at o n.0)

-- The kinds hold of what is recorded, and of what is kept.
module _ (os : LibOs) (o : Objects) (kept : List Named) (ending : Option ℕ) (fits : FitsObjects os o kept ending) where
  kinds_parts : (list_all (is_named o) (recorded os) ≡ true) × (list_all (is_named o) kept ≡ true)
  kinds_parts = and_parts (list_all (is_named o) (recorded os)) (list_all (is_named o) kept) (sym (list_all-append (is_named o) (recorded os) kept) ∙ fits.kinds)

  pub kinds-recorded : list_all (is_named o) (recorded os) ≡ true
  kinds-recorded = kinds_parts.0

  pub kinds-kept : list_all (is_named o) kept ≡ true
  kinds-kept = kinds_parts.1

-- Other objects, and other names kept: the recorded numbers name objects that are alike.
pub FitsObjects-alike : (os : LibOs) (o o' : Objects) (kept kept' : List Named) (ending ending' : Option ℕ) → FitsObjects os o kept ending
    → ((q : ℕ) → 1 ≤ times_named q (recorded os) → Alike (object_at o q) (object_at o' q))
    → ((q : ℕ) → times_named q (recorded os ++ kept') ≡ cond (is_to_name ending' (object_at o' q)) 1 0)
    → list_all (is_named o') kept' ≡ true
    → list_all (λ n. has_code ending' n (object_at o n.handle)) os.processes ≡ true
    → FitsObjects os o' kept' ending'
FitsObjects-alike os o o' kept kept' ending ending' fits alike once kinds codes =
    let before : Named → Bool = is_named o in
    let after : Named → Bool = is_named o' in
    let recorded_kinds : list_all after (recorded os) ≡ true = list_all-counted (λ (n : Named). n.0) before after (recorded os)
    (λ n counted is. (alike n.0 counted).kinds n.1 is) (kinds-recorded os o kept ending fits) in
    record {
      once = once;
      kinds = list_all-append after (recorded os) kept' ∙ and_from (list_all after (recorded os)) (list_all after kept') recorded_kinds kinds;
      homes = list_all-counted (λ (n : ThreadNote). n.handle) (is_home os o) (is_home os o') os.threads
          (λ n counted is. (alike n.handle (omega (arith, counted, times_named-recorded n.handle os))).homes (handle_in (process_named n.pid os.processes)) is) fits.homes;
      codes = list_all-counted (λ (n : ProcessNote). n.handle) (λ n. has_code ending' n (object_at o n.handle)) (λ n. has_code ending' n (object_at o' n.handle)) os.processes
          (λ n counted is. has_code-alike ending' n (object_at o n.handle) (object_at o' n.handle) (alike n.handle (omega (arith, counted, times_named-recorded n.handle os))) is) codes;
    }

-- Objects that agree at every number, whatever the lists and positions are.
pub FitsObjects-same : (os : LibOs) (o o' : Objects) (kept : List Named) (ending : Option ℕ) → ((q : ℕ) → object_at o' q ≡ object_at o q)
    → FitsObjects os o kept ending → FitsObjects os o' kept ending
FitsObjects-same os o o' kept ending same fits =
    FitsObjects-alike os o o' kept kept ending ending fits (λ q counted. Alike-same (object_at o q) (object_at o' q) (same q))
    (λ q. fits.once q ∙ ap (λ x. cond (is_to_name ending x) 1 0) (sym (same q)))
    ((λ i. list_all (λ (n : Named). is_of n.1 (same n.0 i)) kept) ∙ kinds-kept os o kept ending fits) fits.codes

-- ---- another object at a number

pub eqb-flipped : (a b : ℕ) → (a == b) ≡ (b == a)
eqb-flipped a b = elim (a == b) as (λ x. (a == b) ≡ x → x ≡ (b == a)) [
  | true ↦ λ same. sym (eq-eqb b a (sym (eqb-true a b same)))
  | false ↦ λ other. sym (ne_eqb b a (λ same. absurd (let e : true ≡ false = sym (eq-eqb a b (sym same)) ∙ other in cc)))
] refl

pub Alike-with_object : (o : Objects) (h : ℕ) (x : Object) → Alike (object_at o h) (Some x) → (q : ℕ) → Alike (object_at o q) (object_at (with_object o h x) q)
Alike-with_object o h x alike q = subst (Alike (object_at o q)) (sym (get-insert o.live h x q))
    (elim (q == h) as (λ b. (q == h) ≡ b → Alike (object_at o q) (cond b (Some x) (object_at o q))) [
      | true ↦ λ same. subst (λ k. Alike (object_at o k) (Some x)) (sym (eqb-true q h same)) alike
      | false ↦ λ other. Alike-same (object_at o q) (object_at o q) refl
    ] refl)

kinds-alike : (o o' : Objects) → ((q : ℕ) → Alike (object_at o q) (object_at o' q)) → (names : List Named)
    → list_all (is_named o) names ≡ true → list_all (is_named o') names ≡ true
kinds-alike o o' alike names kinds = list_all-weaker (is_named o) (is_named o') (λ n is. (alike n.0).kinds n.1 is) names kinds

-- The object at a number becomes another of which the same can be said.
pub FitsObjects-changed : (os : LibOs) (o : Objects) (h : ℕ) (x : Object) (kept : List Named) (ending : Option ℕ) → Alike (object_at o h) (Some x)
    → is_to_name ending (Some x) ≡ is_to_name ending (object_at o h) → FitsObjects os o kept ending → FitsObjects os (with_object o h x) kept ending
FitsObjects-changed os o h x kept ending alike named fits =
    let all : (q : ℕ) → Alike (object_at o q) (object_at (with_object o h x) q) = Alike-with_object o h x alike in
    FitsObjects-alike os o (with_object o h x) kept kept ending ending fits (λ q counted. all q)
    (λ q. fits.once q ∙ sym (ap (λ y. cond (is_to_name ending y) 1 0) (get-insert o.live h x q)
    ∙ elim (q == h) as (λ b. (q == h) ≡ b → ◌≡◌ {A = ℕ} (cond (is_to_name ending (cond b (Some x) (object_at o q))) 1 0) (cond (is_to_name ending (object_at o q)) 1 0)) [
      | true ↦ λ same. ap (λ b. cond b 1 0) (named ∙ ap (λ k. is_to_name ending (object_at o k)) (sym (eqb-true q h same)))
      | false ↦ λ other. refl
    ] refl))
    (kinds-alike o (with_object o h x) all kept (kinds-kept os o kept ending fits)) fits.codes

times_pushed : (os : LibOs) (kept : List Named) (q h : ℕ) (k : ObjectKind) → times_named q (recorded os ++ (kept ++ (h, k) ∷ [])) ≡ times_named q (recorded os ++ kept) + cond (h == q) 1 0
times_pushed os kept q h k = omega (
  arith,
  times_named-append q (recorded os) (kept ++ (h, k) ∷ []),
  times_named-append q kept ((h, k) ∷ []),
  times_named-cons q h k [],
  times_named-append q (recorded os) kept,
)

-- A fresh number names an object, which is kept.
pub FitsObjects-new : (os : LibOs) (o : Objects) (h : ℕ) (x : Object) (k : ObjectKind) (kept : List Named) (ending : Option ℕ) → object_at o h ≡ None
    → is_to_name ending (Some x) ≡ true → is_of k (Some x) ≡ true → FitsObjects os o kept ending → FitsObjects os (with_object o h x) (kept ++ (h, k) ∷ []) ending
FitsObjects-new os o h x k kept ending free named kind fits =
    let o' : Objects = with_object o h x in
    let all : (q : ℕ) → Alike (object_at o q) (object_at o' q) = Alike-with_object o h x (subst (λ y. Alike y (Some x)) (sym free) (Alike-none (Some x))) in
    let test : Named → Bool = is_named o' in
    let times : ℕ → ℕ = λ q. times_named q (recorded os ++ kept) in
    FitsObjects-alike os o o' kept (kept ++ (h, k) ∷ []) ending ending fits (λ q counted. all q)
    (λ q. times_pushed os kept q h k
    ∙ elim (q == h) as (λ b. (q == h) ≡ b → times q + cond (h == q) 1 0 ≡ cond (is_to_name ending (cond b (Some x) (object_at o q))) 1 0) [
      | true ↦ λ same.
          let zero : times q ≡ 0 = fits.once q ∙ zero_if (is_to_name ending (object_at o q)) (ap (λ j. is_to_name ending (object_at o j)) (eqb-true q h same) ∙ ap (is_to_name ending) free) in
          let here : ◌≡◌ {A = ℕ} (times q + cond (h == q) 1 0) 1 = omega (arith, zero, one_if (h == q) (eqb-flipped h q ∙ same)) in
          here ∙ sym (one_if (is_to_name ending (Some x)) named)
      | false ↦ λ other.
          let there : times q + cond (h == q) 1 0 ≡ times q = omega (arith, zero_if (h == q) (eqb-flipped h q ∙ other)) in
          there ∙ fits.once q
    ] refl
    ∙ sym (ap (λ y. cond (is_to_name ending y) 1 0) (get-insert o.live h x q)))
    (list_all-append test kept ((h, k) ∷ [])
    ∙ and_from (list_all test kept) (list_all test ((h, k) ∷ [])) (kinds-alike o o' all kept (kinds-kept os o kept ending fits))
    (and_from (test (h, k)) true (ap (is_of k) (get-insert-same o.live h x) ∙ kind) refl)) fits.codes

-- ---- a handle is closed

times_between : (os : LibOs) (xs ys : List Named) (q h : ℕ) (k : ObjectKind) →
    times_named q (recorded os ++ (xs ++ (h, k) ∷ ys)) ≡ times_named q (recorded os ++ (xs ++ ys)) + cond (h == q) 1 0
times_between os xs ys q h k = omega (
  arith,
  times_named-append q (recorded os) (xs ++ (h, k) ∷ ys),
  times_named-append q xs ((h, k) ∷ ys),
  times_named-cons q h k ys,
  times_named-append q (recorded os) (xs ++ ys),
  times_named-append q xs ys,
)

-- What names it is kept no more.
pub FitsObjects-closed : (os : LibOs) (o : Objects) (h : ℕ) (k : ObjectKind) (xs ys : List Named) (ending : Option ℕ) → FitsObjects os o (xs ++ (h, k) ∷ ys) ending
    → FitsObjects os (without_handles o (λ q. q == h)) (xs ++ ys) ending
FitsObjects-closed os o h k xs ys ending fits =
    let o' : Objects = without_handles o (λ q. q == h) in
    let kept : List Named = xs ++ (h, k) ∷ ys in
    let gone : object_at o' h ≡ None = object_at-without_handles o (λ q. q == h) h ∙ ap (λ b. cond (not b) (object_at o h) None) (eq-eqb h h refl) in
    let one : cond (h == h) 1 0 ≡ suc zero = one_if (h == h) (eq-eqb h h refl) in
    let times : ℕ → ℕ = λ q. times_named q (recorded os ++ (xs ++ ys)) in
    let most : times_named h (recorded os ++ kept) ≤ 1 = omega (arith, times_named-append h (recorded os) kept, times_named-most os o kept ending fits h) in
    let none : times h ≡ 0 = omega (arith, most, one, times_between os xs ys h h k) in
    let left : (q : ℕ) → 1 ≤ times q → object_at o' q ≡ object_at o q = λ q counted.
    object_at-left o (λ j. j == h) q (ne_eqb q h (λ same. absurd (let n : times q ≡ 0 = ap times same ∙ none in omega (arith, n, counted)))) in
    let before : Named → Bool = is_named o in
    let after : Named → Bool = is_named o' in
    let kinds : list_all before kept ≡ true = kinds-kept os o kept ending fits in
    let parts = and_parts (list_all before xs) (list_all before ((h, k) ∷ ys)) (sym (list_all-append before xs ((h, k) ∷ ys)) ∙ kinds) in
    let rest = and_parts (before (h, k)) (list_all before ys) parts.1 in
    let still : list_all before (xs ++ ys) ≡ true = list_all-append before xs ys ∙ and_from (list_all before xs) (list_all before ys) parts.0 rest.1 in
    FitsObjects-alike os o o' kept (xs ++ ys) ending ending fits
    (λ q counted. Alike-same (object_at o q) (object_at o' q) (left q (omega (arith, counted, times_named-append q (recorded os) (xs ++ ys)))))
    (λ q. elim (q == h) as (λ b. (q == h) ≡ b → times q ≡ cond (is_to_name ending (object_at o' q)) 1 0) [
      | true ↦ λ same. ap times (eqb-true q h same) ∙ none ∙ sym (zero_if (is_to_name ending (object_at o' q)) (ap (λ j. is_to_name ending (object_at o' j)) (eqb-true q h same) ∙ ap (is_to_name ending) gone))
      | false ↦ λ other.
          let fewer : times q ≡ times_named q (recorded os ++ kept) = omega (arith, times_between os xs ys q h k, zero_if (h == q) (eqb-flipped h q ∙ other)) in
          fewer ∙ fits.once q ∙ sym (ap (λ y. cond (is_to_name ending y) 1 0) (object_at-left o (λ j. j == h) q other))
    ] refl)
    (list_all-counted (λ (n : Named). n.0) before after (xs ++ ys)
    (λ n counted is. ap (is_of n.1) (left n.0 (omega (arith, counted, times_named-append n.0 (recorded os) (xs ++ ys)))) ∙ is) still)
    fits.codes

-- ---- what is recorded is there

-- a thread with other registers, and a process with other memory
Alike-thread_kind : (kind : ObjectKind) (p : ℕ) (old new : Context) → is_of kind (Some (Thread p old)) ≡ true → is_of kind (Some (Thread p new)) ≡ true
Alike-thread_kind AProcess p old new is = is
Alike-thread_kind AThread p old new is = is
Alike-thread_kind AnEvent p old new is = is
Alike-thread_kind (AStreamOf kind) p old new is = absurd (cc)
Alike-thread_kind AStream p old new is = is
Alike-thread_kind ToClose p old new is = is

Alike-thread_code : (code : Option ℕ) (p : ℕ) (old new : Context) → is_code code (Some (Thread p old)) ≡ true → is_code code (Some (Thread p new)) ≡ true
Alike-thread_code None p old new is = is
Alike-thread_code (Some code) p old new is = is

pub Alike-thread : (p : ℕ) (old new : Context) → Alike (Some (Thread p old)) (Some (Thread p new))
Alike-thread p old new = record {
  kinds = λ kind is. Alike-thread_kind kind p old new is;
  homes = λ q is. is;
  codes = λ code is. Alike-thread_code code p old new is;
}

Alike-process_kind : (kind : ObjectKind) (old new : Space) → is_of kind (Some (Process old None)) ≡ true → is_of kind (Some (Process new None)) ≡ true
Alike-process_kind AProcess old new is = is
Alike-process_kind AThread old new is = is
Alike-process_kind AnEvent old new is = is
Alike-process_kind (AStreamOf kind) old new is = absurd (cc)
Alike-process_kind AStream old new is = is
Alike-process_kind ToClose old new is = is

Alike-process_code : (code : Option ℕ) (old new : Space) → is_code code (Some (Process old None)) ≡ true → is_code code (Some (Process new None)) ≡ true
Alike-process_code None old new is = refl
Alike-process_code (Some code) old new is = is

pub Alike-process : (old new : Space) → Alike (Some (Process old None)) (Some (Process new None))
Alike-process old new = record {
  kinds = λ kind is. Alike-process_kind kind old new is;
  homes = λ q is. is;
  codes = λ code is. Alike-process_code code old new is;
}

-- A thread of a process, a process that runs, an event.
pub record ThreadOf (x : Option Object) (p : ℕ) : Type 0 where
  pub context : Context
  pub is : x ≡ Some (Thread p context)

pub thread_of : (p : ℕ) (x : Option Object) → is_thread_of p x ≡ true → ThreadOf x p
thread_of p None is = absurd (cc)
thread_of p (Some (Thread q context)) is = record { context = context; is = ap (λ j. Some (Thread j context)) (eqb-true q p is) }
thread_of p (Some (Process memory code)) is = absurd (cc)
thread_of p (Some (Event set)) is = absurd (cc)
thread_of p (Some (Stream name)) is = absurd (cc)
thread_of p (Some (ReadEnd pipe)) is = absurd (cc)
thread_of p (Some (WriteEnd pipe)) is = absurd (cc)

pub record RunningOf (x : Option Object) : Type 0 where
  pub memory : Space
  pub is : x ≡ Some (Process memory None)

pub running_of : (x : Option Object) → is_some (running x) ≡ true → RunningOf x
running_of None is = absurd (cc)
running_of (Some (Process memory None)) is = record { memory = memory; is = refl }
running_of (Some (Process memory (Some code))) is = absurd (cc)
running_of (Some (Thread q context)) is = absurd (cc)
running_of (Some (Event set)) is = absurd (cc)
running_of (Some (Stream name)) is = absurd (cc)
running_of (Some (ReadEnd pipe)) is = absurd (cc)
running_of (Some (WriteEnd pipe)) is = absurd (cc)

pub record EventOf (x : Option Object) : Type 0 where
  pub set : Bool
  pub is : x ≡ Some (Event set)

pub event_of : (x : Option Object) → is_of AnEvent x ≡ true → EventOf x
event_of None is = absurd (cc)
event_of (Some (Event set)) is = record { set = set; is = refl }
event_of (Some (Process memory code)) is = absurd (cc)
event_of (Some (Thread q context)) is = absurd (cc)
event_of (Some (Stream name)) is = absurd (cc)
event_of (Some (ReadEnd pipe)) is = absurd (cc)
event_of (Some (WriteEnd pipe)) is = absurd (cc)

pub record ConsoleOf (x : Option Object) (kind : Kind) : Type 0 where
  pub name : StreamName
  pub console : is_stream_of kind name ≡ true
  pub is : x ≡ Some (Stream name)

pub console_of : (kind : Kind) (x : Option Object) → is_of (AStreamOf kind) x ≡ true → ConsoleOf x kind
console_of kind None is = absurd (cc)
console_of kind (Some (Stream name)) is = record { name = name; console = is; is = refl }
console_of kind (Some (Process memory code)) is = absurd (cc)
console_of kind (Some (Thread q context)) is = absurd (cc)
console_of kind (Some (Event set)) is = absurd (cc)
console_of kind (Some (ReadEnd pipe)) is = absurd (cc)
console_of kind (Some (WriteEnd pipe)) is = absurd (cc)

-- a process that is alive is recorded, without a code
pub record AliveOf (x : Option ProcessNote) : Type 0 where
  pub note : ProcessNote
  pub is : x ≡ Some note
  pub code : note.code ≡ None

no_code_of : (code : Option ℕ) → not (is_some code) ≡ true → code ≡ None
no_code_of None is = refl
no_code_of (Some code) is = absurd (cc)

pub alive_of : (x : Option ProcessNote) → is_alive x ≡ true → AliveOf x
alive_of None is = absurd (cc)
alive_of (Some note) is = record { note = note; is = refl; code = no_code_of note.code is }

-- the kinds of what is recorded, list by list
pub record KindsRecorded (os : LibOs) (o : Objects) : Type 0 where
  pub processes : list_all (λ (n : ProcessNote). is_of AProcess (object_at o n.handle)) os.processes ≡ true
  pub threads : list_all (λ (n : ThreadNote). is_of AThread (object_at o n.handle)) os.threads ≡ true
  pub events : list_all (λ (n : ThreadNote). is_of AnEvent (object_at o n.event)) os.threads ≡ true
  pub descriptions : list_all (λ (d : Description). is_of (AStreamOf d.kind) (object_at o d.handle)) os.descriptions ≡ true

pub kinds_recorded : (os : LibOs) (o : Objects) → list_all (is_named o) (recorded os) ≡ true → KindsRecorded os o
kinds_recorded os o kinds =
    let test : Named → Bool = is_named o in
    let processes : List Named = map (λ n. (n.handle, AProcess)) os.processes in
    let threads : List Named = map (λ n. (n.handle, AThread)) os.threads in
    let events : List Named = map (λ n. (n.event, AnEvent)) os.threads in
    let descriptions : List Named = map (λ d. (d.handle, AStreamOf d.kind)) os.descriptions in
    let first = and_parts (list_all test processes) (list_all test (threads ++ (events ++ descriptions))) (sym (list_all-append test processes (threads ++ (events ++ descriptions))) ∙ kinds) in
    let second = and_parts (list_all test threads) (list_all test (events ++ descriptions)) (sym (list_all-append test threads (events ++ descriptions)) ∙ first.1) in
    let third = and_parts (list_all test events) (list_all test descriptions) (sym (list_all-append test events descriptions) ∙ second.1) in
    record {
      processes = sym (list_all-map test (λ (n : ProcessNote). (n.handle, AProcess)) os.processes) ∙ first.0;
      threads = sym (list_all-map test (λ (n : ThreadNote). (n.handle, AThread)) os.threads) ∙ second.0;
      events = sym (list_all-map test (λ (n : ThreadNote). (n.event, AnEvent)) os.threads) ∙ third.0;
      descriptions = sym (list_all-map test (λ (d : Description). (d.handle, AStreamOf d.kind)) os.descriptions) ∙ third.1;
    }

-- What the record of a thread is linked with: its process, which runs, and the objects.
pub record Linked (os : LibOs) (o : Objects) (n : ThreadNote) : Type 0 where
  pub process : ProcessNote
  pub named : process_named n.pid os.processes ≡ Some process
  pub pid : process.pid ≡ n.pid
  pub code : process.code ≡ None
  pub behind : process_with process.handle os.processes ≡ Some process
  pub context : Context
  pub there : object_at o n.handle ≡ Some (Thread process.handle context)
  pub memory : Space
  pub runs : object_at o process.handle ≡ Some (Process memory None)
  pub set : Bool
  pub event : object_at o n.event ≡ Some (Event set)

module _ (os : LibOs) (o : Objects) (kept : List Named) (ending : Option ℕ) (records : FitsRecords os) (fits : FitsObjects os o kept ending) where
  pub kinds-lists : KindsRecorded os o
  kinds-lists = kinds_recorded os o (kinds-recorded os o kept ending fits)

  -- a running process by its code
  pub has_code-runs : (n : ProcessNote) → n.code ≡ None → has_code ending n (object_at o n.handle) ≡ true → is_some (running (object_at o n.handle)) ≡ true
  has_code-runs n none is = elim (is_at n.handle ending) as (λ b. cond b (is_some (running (object_at o n.handle))) (is_code n.code (object_at o n.handle)) ≡ true → is_some (running (object_at o n.handle)) ≡ true) [
    | true ↦ λ runs. runs
    | false ↦ λ code. ap (λ c. is_code c (object_at o n.handle)) (sym none) ∙ code
  ] is

  -- a process by its handle, of all processes
  pub process_with-found : (p : ProcessNote → Bool) (n : ProcessNote) → find p os.processes ≡ Some n → process_with n.handle os.processes ≡ Some n
  process_with-found p n is = find-alone p (λ m. m.handle == n.handle) os.processes n is (eq-eqb n.handle n.handle refl)
      (omega (arith, times_recorded-most os o kept ending fits n.handle))

  -- a thread by any test
  pub linked-found : (p : ThreadNote → Bool) (n : ThreadNote) → find p os.threads ≡ Some n → Linked os o n
  linked-found p n is =
      let alive = alive_of (process_named n.pid os.processes) (list_all-find (λ m. is_alive (process_named m.pid os.processes)) p os.threads n records.threads is) in
      let home = list_all-find (is_home os o) p os.threads n fits.homes is in
      let thread = thread_of alive.note.handle (object_at o n.handle) (ap (λ x. is_thread_of (handle_in x) (object_at o n.handle)) (sym alive.is) ∙ home) in
      let code = list_all-find (λ m. has_code ending m (object_at o m.handle)) (λ m. m.pid == n.pid) os.processes alive.note fits.codes alive.is in
      let runs = running_of (object_at o alive.note.handle) (has_code-runs alive.note alive.code code) in
      let event = event_of (object_at o n.event) (list_all-find (λ m. is_of AnEvent (object_at o m.event)) p os.threads n kinds-lists.events is) in
      record {
        process = alive.note;
        named = alive.is;
        pid = eqb-true alive.note.pid n.pid (find-passes (λ m. m.pid == n.pid) os.processes alive.note alive.is);
        code = alive.code;
        behind = process_with-found (λ m. m.pid == n.pid) alive.note alive.is;
        context = thread.context;
        there = thread.is;
        memory = runs.memory;
        runs = runs.is;
        set = event.set;
        event = event.is;
      }

  pub linked : (h : ℕ) (n : ThreadNote) → thread_with h os.threads ≡ Some n → Linked os o n
  linked h n is = linked-found (λ m. m.handle == h) n is

-- The thread of a trap has a record, and the process is that of the record.
pub record Trapped (os : LibOs) (o : Objects) (u : Upcall) : Type 0 where
  pub thread : ThreadNote
  pub found : thread_with u.thread os.threads ≡ Some thread
  pub handle : thread.handle ≡ u.thread
  pub links : Linked os o thread
  pub process : u.process ≡ links.process.handle

same_thread : (x : Option Object) (p q : ℕ) (old new : Context) → x ≡ Some (Thread p old) → x ≡ Some (Thread q new) → p ≡ q
same_thread x p q old new is also = cc

pub trapped : (os : LibOs) (o : Objects) (u : Upcall) (kept : List Named) (ending : Option ℕ) → FitsRecords os → FitsObjects os o kept ending
    → is_thread_of u.process (object_at o u.thread) ≡ true → is_some (thread_with u.thread os.threads) ≡ true → Trapped os o u
trapped os o u kept ending records fits home recorded =
    let note = some_of (thread_with u.thread os.threads) recorded in
    let links = linked os o kept ending records fits u.thread note.0 note.1 in
    let handle = eqb-true note.0.handle u.thread (find-passes (λ n. n.handle == u.thread) os.threads note.0 note.1) in
    let there = thread_of u.process (object_at o u.thread) home in
    record {
      thread = note.0;
      found = note.1;
      handle = handle;
      links = links;
      process = same_thread (object_at o u.thread) u.process links.process.handle there.context links.context there.is (ap (object_at o) (sym handle) ∙ links.there);
    }

-- It is its ids that serving it names.
pub caller_of-trapped : (os : LibOs) (o : Objects) (u : Upcall) (at : Trapped os o u)
    → caller_of os u ≡ record { thread = at.thread.tid; process = at.links.process.pid; context = u.context }
caller_of-trapped os o u at = λ i. record {
  thread = tid_of (at.found i);
  process = (ap (pid_with os) at.process ∙ ap pid_of at.links.behind) i;
  context = u.context;
}
