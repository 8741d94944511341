-- Each test of what fits by itself decides it; and what fits is what fits by itself with what joins it to the objects.
use Rattle.std.specs.Prelude.{◌≡◌, ◌↔◌, ℕ, ◌+◌, ◌<◌, ◌≤◌, ◌==◌, Bool, true, false, not, ◌||◌, nat_le, List, [], ◌∷◌, map, length, is_some, Decides}
use Rattle.std.specs.List.{list_all}
use Rattle.std.specs.Str.{bytes_eq}
use Rattle.std.specs.Option.{option_map}
use Rattle.std.specs.declared.option.Option.{Option}
use Rattle.std.specs.declared.option.Option.TheVariants.{None, Some}
use Rattle.std.proofs.Common.{refl, sym, ap, subst, ◌∙◌, arith, true≢false}
use Rattle.std.proofs.lemmas.Bool.{leb-true, le-leb}
use Rattle.std.proofs.lemmas.Bool.Decides.{Decides-and, Decides-like, Decides-ltb, Decides-eqb}
use Rattle.std.proofs.lemmas.Slice.Eq.{bytes_eq-Decides}
use Rattle.rv_core.specs.declared.context.Context.{Context}
use Rattle.abi_calls.specs.declared.threads.Upcall.{Upcall}
use Rattle.abi_calls.specs.Objects.{Objects}
use Rattle.abi_calls.specs.Processes.{is_acceptable}
use Rattle.mono_model.specs.Machine.{register}
use Rattle.mono_model.specs.Calls.{moved}
use Rattle.mono_model.specs.Mapping.{MOST_PAGES, FIRST_MAPPED}
use Rattle.mono_model.specs.Starting.{STACK_PAGE}
use Rattle.elf_loader.specs.declared.ElfError.{ElfError}
use Rattle.elf_loader.specs.Refusal.{refusal}
use Rattle.libos_state.specs.declared.cont.Cont.{Cont}
use Rattle.libos_state.specs.declared.cont.Event.{Event}
use Rattle.libos_state.specs.declared.cont.Event.TheVariants as event
use Rattle.libos_state.specs.declared.cont.Stage.{Stage}
use Rattle.libos_state.specs.declared.cont.Stage.TheVariants.{CloseStream, CloseHandles, ExitProcess, StoreBytes, AppendLength, WriteStream, AllocatePages, FreePages, ProtectPages, Configure, OpenConsole, ReadProgram, CreateProcess, AllocateRun, WriteRun, ProtectRun, AllocateStack, WriteBlock, CreateThread, CreateEvent, StartThread}
use Rattle.libos_state.specs.declared.state.Boot.{Boot}
use Rattle.libos_state.specs.declared.state.Boot.TheVariants as boot
use Rattle.libos_state.specs.declared.state.LibOs.{LibOs}
use Rattle.libos_state.specs.Records.{process_named, process_with, thread_named}
use Rattle.libos_state.specs.Pending.{upcall_in, number, is_brk, program_name, arguments, runs_in, run_in}
use Rattle.libos_state.specs.Named.{consoles, kinds_at}
use Rattle.libos_state.specs.Fits.{Fits, FitsCont, FitsBoot, FitsEvent, FitsNone, FitsRecords, are_distinct, is_given, is_fit_process, is_alive, is_described, is_fit_access, KeepsLists, HasHandles, FitsNames, AreNames, KeepsCode, KeepsPages, KeepsMade, KeepsSize, KeepsRun, KeepsPlace, FitsKept, is_none, keeps_next, keeps_names, keeps_bytes, numbers_at, is_ended_with, is_fit_parent, is_fit_append, LAST_ID, closes_new, most_stored, writes_at}
use Rattle.libos_state.specs.Alone.{fits_records, has_handles_once, has_first, HasNoRecords, has_no_records, FitsProgress, fits_progress, serves_in, FitsAlone, fits_alone, event_comes_to, FitsService, is_same_context, has_handles, keeps_lists, fits_names, are_names, keeps_code, keeps_pages, keeps_made, keeps_size, keeps_run, keeps_place, fits_kept, fits_service, FitsServices, IsAtEvent, HasConsoles, FitsSettledObjects, FitsWorld}
use Rattle.libos_state.proofs.Once.{has_handles_once-fits, has_handles_once-none, has_handles_once-served}

-- ---- tests and what they tell

is_true : (b : Bool) → Decides b (b ≡ true)
is_true b = (λ e. e, λ e. e)

Decides-leb : (a b : ℕ) → Decides (nat_le a b) (a ≤ b)
Decides-leb a b = (leb-true a b, le-leb a b)

Decides-unless : {P : Type 0} (b x : Bool) → Decides x P → Decides (b || x) (b ≡ false → P)
Decides-unless true x d = (λ _ no. absurd (true≢false no), λ _. refl)
Decides-unless false x d = (λ e _. d.0 e, λ p. d.1 (p refl))

Decides-none : {A : Type 0} (xs : List A) → Decides (is_none xs) (xs ≡ [])
Decides-none [] = (λ _. refl, λ _. refl)
Decides-none (x ∷ xs) = (λ e. absurd (true≢false (sym e)), λ e. absurd (cc))

-- ---- the library OS

pub Decides-fits_records : (os : LibOs) → Decides (fits_records os) (FitsRecords os)
Decides-fits_records os = Decides-like (fits_records os)
    (λ p. record {
      pids = p.0;
      tids = p.1.0;
      ids = p.1.1.0;
      given_pids = p.1.1.1.0;
      given_tids = p.1.1.1.1.0;
      processes = p.1.1.1.1.1.0;
      threads = p.1.1.1.1.1.1.0;
      described = p.1.1.1.1.1.1.1.0;
      access = p.1.1.1.1.1.1.1.1.0;
      append = p.1.1.1.1.1.1.1.1.1.0;
      parents = p.1.1.1.1.1.1.1.1.1.1.0;
      queued = p.1.1.1.1.1.1.1.1.1.1.1.0;
      waits_once = p.1.1.1.1.1.1.1.1.1.1.1.1.0;
      few_ids = p.1.1.1.1.1.1.1.1.1.1.1.1.1;
    })
    (λ (r : FitsRecords os). (r.pids, (r.tids, (r.ids, (r.given_pids, (r.given_tids, (r.processes, (r.threads, (r.described, (r.access, (r.append, (r.parents, (r.queued, (r.waits_once, r.few_ids))))))))))))))
    (Decides-and _ _ (is_true _) (Decides-and _ _ (is_true _) (Decides-and _ _ (is_true _) (Decides-and _ _ (is_true _) (Decides-and _ _ (is_true _)
    (Decides-and _ _ (is_true _) (Decides-and _ _ (is_true _) (Decides-and _ _ (is_true _) (Decides-and _ _ (is_true _) (Decides-and _ _ (is_true _)
    (Decides-and _ _ (is_true _) (Decides-and _ _ (is_true _) (Decides-and _ _ (is_true _) (Decides-leb os.next_id LAST_ID))))))))))))))

Decides-has_no_records : (os : LibOs) → Decides (has_no_records os) (HasNoRecords os)
Decides-has_no_records os = Decides-like (has_no_records os)
    (λ p. record { processes = p.0; threads = p.1.0; descriptions = p.1.1.0; queue = p.1.1.1.0; next_id = p.1.1.1.1 })
    (λ (r : HasNoRecords os). (r.processes, (r.threads, (r.descriptions, (r.queue, r.next_id)))))
    (Decides-and _ _ (Decides-none os.processes) (Decides-and _ _ (Decides-none os.threads) (Decides-and _ _ (Decides-none os.descriptions)
    (Decides-and _ _ (Decides-none os.queue) (Decides-eqb os.next_id 1)))))

Decides-fits_progress : (os : LibOs) (b : Boot) → Decides (fits_progress os b) (FitsProgress os b)
Decides-fits_progress os boot.Up = is_true (has_first os)
Decides-fits_progress os boot.Going = Decides-has_no_records os
Decides-fits_progress os boot.NoProgram = Decides-has_no_records os
Decides-fits_progress os (boot.BadProgram cause) = Decides-has_no_records os

pub alone_decides : (os : LibOs) → Decides (fits_alone os) (FitsAlone os)
alone_decides os = Decides-like (fits_alone os)
    (λ p. record { records = p.0; handles = p.1.0; progress = p.1.1.0; serves = p.1.1.1 })
    (λ (r : FitsAlone os). (r.records, (r.handles, (r.progress, r.serves))))
    (Decides-and (fits_records os) _ (Decides-fits_records os) (Decides-and (has_handles_once os) _ (is_true _)
    (Decides-and (fits_progress os os.boot) _ (Decides-fits_progress os os.boot) (is_true _))))

-- ---- a service in progress

Decides-context : (a b : Context) → Decides (is_same_context a b) (a ≡ b)
Decides-context a b = Decides-like (is_same_context a b)
    (λ p. λ i. record { pc = p.0 i; x = p.1 i })
    (λ same. (ap (λ (c : Context). c.pc) same, ap (λ (c : Context). c.x) same))
    (Decides-and (a.pc == b.pc) (bytes_eq a.x b.x) (Decides-eqb a.pc b.pc) (bytes_eq-Decides a.x b.x))

Decides-has_handles : (stage : Stage) (hs : List ℕ) → Decides (has_handles stage hs) (HasHandles stage hs)
Decides-has_handles CloseHandles hs = Decides-leb 1 (length hs)
Decides-has_handles OpenConsole hs = Decides-ltb (length hs) (length consoles)
Decides-has_handles stage hs = Decides-eqb (length hs) (length (kinds_at stage))

Decides-keeps_lists : (c : Cont) (stage : Stage) → Decides (keeps_lists c stage) (KeepsLists c stage)
Decides-keeps_lists c stage = Decides-like (keeps_lists c stage)
    (λ p. record { next = p.0; names = p.1.0; bytes = p.1.1.0; handles = p.1.1.1.0; later = p.1.1.1.1.0; numbers = p.1.1.1.1.1 })
    (λ (r : KeepsLists c stage). (r.next, (r.names, (r.bytes, (r.handles, (r.later, r.numbers))))))
    (Decides-and _ _ (Decides-unless (keeps_next stage) _ (Decides-context c.next (upcall_in c.event).context))
    (Decides-and _ _ (Decides-unless (keeps_names stage) _ (Decides-none c.names))
    (Decides-and _ _ (Decides-unless (keeps_bytes stage) _ (Decides-none c.bytes))
    (Decides-and _ _ (Decides-has_handles stage c.handles)
    (Decides-and _ _ (Decides-none c.later) (Decides-eqb (length c.numbers) (numbers_at stage)))))))

Decides-fits_names : (c : Cont) → Decides (fits_names c) (FitsNames c)
Decides-fits_names c = Decides-like (fits_names c)
    (λ p. record { some = p.0; named = p.1.0; short = p.1.1.0; few = p.1.1.1.0; args = p.1.1.1.1 })
    (λ (r : FitsNames c). (r.some, (r.named, (r.short, (r.few, r.args)))))
    (Decides-and _ _ (Decides-leb 1 (length c.names)) (Decides-and _ _ (Decides-leb 1 (length (program_name c)))
    (Decides-and _ _ (Decides-leb (length (program_name c)) 80) (Decides-and _ _ (Decides-leb (length (arguments c)) 16) (is_true _)))))

Decides-are_names : (c : Cont) (keeps : Bool) → Decides (are_names c keeps) (AreNames c keeps)
Decides-are_names c true = Decides-fits_names c
Decides-are_names c false = (λ _. tt, λ _. refl)

Decides-keeps_code : (os : LibOs) (c : Cont) (ns : List ℕ) → c.numbers ≡ ns → Decides (keeps_code os c ns) (KeepsCode os c)
Decides-keeps_code os c [] same = (λ e. absurd (true≢false (sym e)), λ (k : KeepsCode os c). absurd (let e : [] ≡ k.code ∷ [] = sym same ∙ k.kept in cc))
Decides-keeps_code os c (n ∷ []) same = Decides-like (keeps_code os c (n ∷ []))
    (λ p. record { code = n; kept = same; byte = p.0; ended = p.1 })
    (λ (k : KeepsCode os c).
    let e : k.code ≡ n = let l : n ∷ [] ≡ k.code ∷ [] = sym same ∙ k.kept in cc in
    (subst (λ m. m < 256) e k.byte, subst (λ m. is_ended_with (process_with (upcall_in c.event).process os.processes) m ≡ true) e k.ended))
    (Decides-and _ _ (Decides-ltb n 256) (is_true _))
Decides-keeps_code os c (n ∷ m ∷ ns) same =
    (λ e. absurd (true≢false (sym e)), λ (k : KeepsCode os c). absurd (let e : n ∷ m ∷ ns ≡ k.code ∷ [] = sym same ∙ k.kept in cc))

Decides-keeps_size : (c : Cont) (ns : List ℕ) → c.numbers ≡ ns → Decides (keeps_size c ns) (KeepsSize c)
Decides-keeps_size c [] same = (λ e. absurd (true≢false (sym e)), λ (k : KeepsSize c). absurd (let e : [] ≡ k.size ∷ [] = sym same ∙ k.kept in cc))
Decides-keeps_size c (n ∷ []) same = Decides-like (keeps_size c (n ∷ []))
    (λ read. record { size = n; kept = same; read = read })
    (λ (k : KeepsSize c). let e : k.size ≡ n = let l : n ∷ [] ≡ k.size ∷ [] = sym same ∙ k.kept in cc in subst (λ m. length c.bytes ≤ m) e k.read)
    (Decides-leb (length c.bytes) n)
Decides-keeps_size c (n ∷ m ∷ ns) same =
    (λ e. absurd (true≢false (sym e)), λ (k : KeepsSize c). absurd (let e : n ∷ m ∷ ns ≡ k.size ∷ [] = sym same ∙ k.kept in cc))

Decides-absent : (x : Option ElfError) → Decides (not (is_some x)) (x ≡ None)
Decides-absent None = (λ _. refl, λ _. refl)
Decides-absent (Some cause) = (λ e. absurd (true≢false (sym e)), λ e. absurd (cc))

Decides-keeps_pages : (c : Cont) → Decides (keeps_pages c) (KeepsPages c)
Decides-keeps_pages c = Decides-like (keeps_pages c)
    (λ p. record { some = p.0; few = p.1.0; above = p.1.1.0; below = p.1.1.1 })
    (λ (k : KeepsPages c). (k.some, (k.few, (k.above, k.below))))
    (Decides-and _ _ (Decides-leb 1 (number c 1)) (Decides-and _ _ (Decides-leb (number c 1) MOST_PAGES)
    (Decides-and _ _ (Decides-leb FIRST_MAPPED (number c 0)) (Decides-leb (number c 0 + number c 1) STACK_PAGE))))

Decides-keeps_made : (c : Cont) (brk : Bool) → Decides (keeps_made c brk) (KeepsMade c brk)
Decides-keeps_made c true = Decides-leb 1 (number c 1)
Decides-keeps_made c false = Decides-keeps_pages c

Decides-keeps_run : (c : Cont) → Decides (keeps_run c) (KeepsRun c)
Decides-keeps_run c = Decides-like (keeps_run c)
    (λ p. record { program = p.0; among = p.1 })
    (λ (k : KeepsRun c). (k.program, k.among))
    (Decides-and _ _ (Decides-absent (refusal c.bytes)) (Decides-ltb (number c 0) (length (runs_in c))))

Decides-keeps_place : (c : Cont) → Decides (keeps_place c) (KeepsPlace c)
Decides-keeps_place c = Decides-like (keeps_place c)
    (λ p. record { run = p.0; more = p.1 })
    (λ (k : KeepsPlace c). (k.run, k.more))
    (Decides-and (keeps_run c) _ (Decides-keeps_run c) (Decides-ltb (number c 1) (length (run_in c).bytes)))

Decides-fits_kept : (os : LibOs) (c : Cont) (stage : Stage) → Decides (fits_kept os c stage) (FitsKept os c stage)
Decides-fits_kept os c CloseStream = is_true (closes_new os c)
Decides-fits_kept os c CloseHandles = Decides-keeps_code os c c.numbers refl
Decides-fits_kept os c ExitProcess = Decides-keeps_code os c c.numbers refl
Decides-fits_kept os c StoreBytes = Decides-leb (length c.bytes) (most_stored (upcall_in c.event))
Decides-fits_kept os c AppendLength = Decides-eqb (length c.bytes) (moved (register (upcall_in c.event).context 12))
Decides-fits_kept os c WriteStream = Decides-and _ _ (is_true (writes_at os c)) (Decides-eqb (length c.bytes) (moved (register (upcall_in c.event).context 12)))
Decides-fits_kept os c AllocatePages = Decides-keeps_made c (is_brk c)
Decides-fits_kept os c FreePages = Decides-leb 1 (number c 1)
Decides-fits_kept os c ProtectPages = Decides-leb 1 (number c 1)
Decides-fits_kept os c Configure = is_true (is_acceptable os.settings)
Decides-fits_kept os c ReadProgram = Decides-keeps_size c c.numbers refl
Decides-fits_kept os c CreateProcess = Decides-absent (refusal c.bytes)
Decides-fits_kept os c AllocateRun = Decides-keeps_run c
Decides-fits_kept os c WriteRun = Decides-keeps_place c
Decides-fits_kept os c ProtectRun = Decides-keeps_run c
Decides-fits_kept os c AllocateStack = Decides-absent (refusal c.bytes)
Decides-fits_kept os c WriteBlock = Decides-absent (refusal c.bytes)
Decides-fits_kept os c CreateThread = Decides-absent (refusal c.bytes)
Decides-fits_kept os c CreateEvent = Decides-absent (refusal c.bytes)
Decides-fits_kept os c StartThread = Decides-absent (refusal c.bytes)
Decides-fits_kept os c _ = (λ _. tt, λ _. refl)

pub Decides-fits_service : (os : LibOs) (c : Cont) (stage : Stage) → Decides (fits_service os c stage) (FitsService os c stage)
Decides-fits_service os c stage = Decides-like (fits_service os c stage)
    (λ p. record { comes = p.0; lists = p.1.0; names = p.1.1.0; kept = p.1.1.1 })
    (λ (r : FitsService os c stage). (r.comes, (r.lists, (r.names, r.kept))))
    (Decides-and _ _ (is_true _) (Decides-and _ _ (Decides-keeps_lists c stage)
    (Decides-and _ _ (Decides-are_names c (keeps_names stage)) (Decides-fits_kept os c stage))))

-- ---- the cut

no_records_fit : (os : LibOs) → HasNoRecords os → FitsRecords os
no_records_fit os none = record {
  pids = ap (λ ns. are_distinct (map (λ n. n.pid) ns)) none.processes;
  tids = ap (λ ns. are_distinct (map (λ n. n.tid) ns)) none.threads;
  ids = ap (λ ds. are_distinct (map (λ d. d.id) ds)) none.descriptions;
  given_pids = ap (list_all (λ n. is_given os n.pid)) none.processes;
  given_tids = ap (list_all (λ n. is_given os n.tid)) none.threads;
  processes = ap (list_all (is_fit_process os)) none.processes;
  threads = ap (list_all (λ n. is_alive (process_named n.pid os.processes))) none.threads;
  described = ap (list_all (λ d. is_described os d.id)) none.descriptions;
  access = ap (list_all (λ d. is_fit_access d.kind d.access)) none.descriptions;
  append = ap (list_all (λ d. is_fit_append d.kind d.append)) none.descriptions;
  parents = ap (list_all (is_fit_parent os)) none.processes;
  queued = ap (list_all (λ q. is_some (thread_named q.tid os.threads))) none.queue;
  waits_once = ap (λ qs. are_distinct (map (λ q. q.tid) qs)) none.queue;
  few_ids = subst (λ n. n ≤ LAST_ID) (sym none.next_id) (omega arith);
}

-- the event of a service, against the library OS, the stage and the objects
module _ (os : LibOs) (o : Objects) where
  abbrev Cut : Event → Stage → Type 0
  Cut e stage = FitsProgress os os.boot × (serves_in os.boot (Some e) ≡ true) × (event_comes_to os e stage ≡ true) × IsAtEvent o e

  up_serves : (b : Boot) (u : Upcall) → serves_in b (Some (event.Up u)) ≡ true → b ≡ boot.Up
  up_serves boot.Up u e = refl
  up_serves boot.Going u e = absurd (true≢false (sym e))
  up_serves boot.NoProgram u e = absurd (true≢false (sym e))
  up_serves (boot.BadProgram cause) u e = absurd (true≢false (sym e))

  start_serves : (b : Boot) (program : List ℕ) (args : List (List ℕ)) → serves_in b (Some (event.Boot program args)) ≡ true → b ≡ boot.Going
  start_serves boot.Going program args e = refl
  start_serves boot.Up program args e = absurd (true≢false (sym e))
  start_serves boot.NoProgram program args e = absurd (true≢false (sym e))
  start_serves (boot.BadProgram cause) program args e = absurd (true≢false (sym e))

  event_cut : (e : Event) (stage : Stage) → FitsEvent os o e stage → Cut e stage
  event_cut (event.Up u) stage fits =
      (subst (FitsProgress os) (sym fits.up) fits.first, ap (λ b. serves_in b (Some (event.Up u))) fits.up, fits.comes, (fits.current, fits.home))
  event_cut (event.Boot program args) stage fits =
      let none : HasNoRecords os = record { processes = fits.processes; threads = fits.threads; descriptions = fits.descriptions; queue = fits.queue; next_id = fits.next_id } in
      (subst (FitsProgress os) (sym fits.going) none, ap (λ b. serves_in b (Some (event.Boot program args))) fits.going, fits.starts, fits.current)

  event_joined : (e : Event) (stage : Stage) → Cut e stage → FitsEvent os o e stage
  event_joined (event.Up u) stage cut =
      let up = up_serves os.boot u cut.1 in
      record { up = up; first = subst (FitsProgress os) up cut.0; current = cut.3.0; home = cut.3.1; comes = cut.2 }
  event_joined (event.Boot program args) stage cut =
      let going = start_serves os.boot program args cut.1 in
      let none : HasNoRecords os = subst (FitsProgress os) going cut.0 in
      record {
        going = going;
        next_id = none.next_id;
        processes = none.processes;
        threads = none.threads;
        descriptions = none.descriptions;
        queue = none.queue;
        current = cut.3;
        starts = cut.2;
      }

  -- with nothing in progress
  abbrev Settled : Boot → Type 0
  Settled b = FitsRecords os × FitsProgress os b × (serves_in b None ≡ true) × FitsSettledObjects os o b × (o.lists.current ≡ None)

  none_cut : FitsNone os o → HasNoRecords os × HasConsoles os o
  none_cut fits = (
    record { processes = fits.processes; threads = fits.threads; descriptions = fits.descriptions; queue = fits.queue; next_id = fits.next_id },
    record { handles = fits.handles; all = fits.all; objects = fits.objects },
  )

  none_joined : HasNoRecords os → HasConsoles os o → o.lists.current ≡ None → FitsNone os o
  none_joined none consoles current = record {
    processes = none.processes;
    threads = none.threads;
    descriptions = none.descriptions;
    queue = none.queue;
    next_id = none.next_id;
    handles = consoles.handles;
    all = consoles.all;
    objects = consoles.objects;
    current = current;
  }

  settled_once : (b : Boot) → FitsBoot os o b → has_handles_once os ≡ true
  settled_once boot.Up fits = has_handles_once-fits os o [] None fits.objects
  settled_once boot.NoProgram fits = has_handles_once-none os (none_cut fits).0
  settled_once (boot.BadProgram cause) fits = has_handles_once-none os (none_cut fits).0
  settled_once boot.Going fits = absurd fits

  settled_cut : (b : Boot) → FitsBoot os o b → Settled b
  settled_cut boot.Up fits = (fits.records, fits.first, refl, fits.objects, fits.current)
  settled_cut boot.NoProgram fits = let cut = none_cut fits in (no_records_fit os cut.0, cut.0, refl, cut.1, fits.current)
  settled_cut (boot.BadProgram cause) fits = let cut = none_cut fits in (no_records_fit os cut.0, cut.0, refl, cut.1, fits.current)
  settled_cut boot.Going fits = absurd fits

  settled_joined : (b : Boot) → Settled b → FitsBoot os o b
  settled_joined boot.Up s = record { records = s.0; first = s.1; objects = s.3; current = s.4 }
  settled_joined boot.NoProgram s = none_joined s.1 s.3 s.4
  settled_joined (boot.BadProgram cause) s = none_joined s.1 s.3 s.4
  settled_joined boot.Going s = absurd (true≢false (sym s.2))

  abbrev Parts : Option Cont → Type 0
  Parts cont = FitsAlone os × FitsServices os cont × FitsWorld os o cont

  cut_at : (cont : Option Cont) → os.cont ≡ cont → FitsCont os o cont → Parts cont
  cut_at None is fits =
      let s = settled_cut os.boot fits in
      (record { records = s.0; handles = settled_once os.boot fits; progress = s.1; serves = ap (λ (x : Option Cont). serves_in os.boot (option_map (λ c. c.event) x)) is ∙ s.2 }, tt, (s.3, s.4))
  cut_at (Some c) is fits =
      let e = event_cut c.event c.stage fits.event in (
        record { records = fits.records; handles = has_handles_once-served os o c c.stage fits; progress = e.0; serves = ap (λ (x : Option Cont). serves_in os.boot (option_map (λ j. j.event) x)) is ∙ e.1 },
        record { comes = e.2; lists = fits.lists; names = fits.names; kept = fits.kept },
        (fits.objects, e.3, fits.made),
      )

  joined_at : (cont : Option Cont) → os.cont ≡ cont → Parts cont → FitsCont os o cont
  joined_at None is parts =
      let serves : serves_in os.boot None ≡ true = ap (λ (x : Option Cont). serves_in os.boot (option_map (λ c. c.event) x)) (sym is) ∙ parts.0.serves in
      settled_joined os.boot (parts.0.records, parts.0.progress, serves, parts.2.0, parts.2.1)
  joined_at (Some c) is parts =
      let serves : serves_in os.boot (Some c.event) ≡ true = ap (λ (x : Option Cont). serves_in os.boot (option_map (λ j. j.event) x)) (sym is) ∙ parts.0.serves in
      record {
        records = parts.0.records;
        objects = parts.2.0;
        event = event_joined c.event c.stage (parts.0.progress, serves, parts.1.comes, parts.2.1);
        lists = parts.1.lists;
        names = parts.1.names;
        kept = parts.1.kept;
        made = parts.2.2;
      }

-- What fits is what fits by itself, the service in progress too, and what joins both to the objects.
pub Fits-cut : (os : LibOs) (o : Objects) → Fits os o ↔ (FitsAlone os × FitsServices os os.cont × FitsWorld os o os.cont)
Fits-cut os o = (cut_at os o os.cont refl, joined_at os o os.cont refl)
