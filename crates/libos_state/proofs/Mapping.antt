-- The stages on a process's pages: they are made, go, or get other rights.
use Rattle.std.specs.Prelude.{◌≡◌, ℕ, ◌+◌, ◌*◌, ◌≤◌, ◌==◌, Bool, true, false, cond, not, ◌&&◌, ◌||◌, if◌then◌else◌, nat_lt, nat_le, [], ◌∷◌, is_some}
use Rattle.std.specs.FinMap.{len}
use Rattle.std.specs.declared.option.Option.{Option}
use Rattle.std.specs.declared.option.Option.TheVariants.{None, Some}
use Rattle.std.proofs.Common.{refl, sym, ap, subst, ◌∙◌, arith, eqb-true, ltb-false, leb-true, leb-false, le-leb, le-ltb, ne_eqb}
use Rattle.std.proofs.Math.Bool.{or-false}
use Rattle.std.proofs.lemmas.Bool.{and_parts, both_ways, eqb-false}
use Rattle.rv_core.specs.declared.context.Context.{Context}
use Rattle.guest_space.specs.Space.{Space, with_run, without_run, protected}
use Rattle.guest_space.specs.Run.{first_held, first_missing}
use Rattle.abi_calls.specs.declared.object.Object.TheVariants.{Process}
use Rattle.abi_calls.specs.declared.reply.Reply.{Reply}
use Rattle.abi_calls.specs.declared.reply.Reply.TheVariants.{Done, Exists, BadAddress, NoRoom}
use Rattle.abi_calls.specs.declared.threads.Upcall.{Upcall}
use Rattle.abi_calls.specs.Objects.{Objects, object_at, running}
use Rattle.abi_calls.specs.Memory.{with_pages, memory_allocate_row, memory_free_row, memory_protect_row}
use Rattle.abi_calls.specs.Sound.{IsSound}
use Rattle.mono_model.specs.Machine.{Mono, register, process_at, with_memory_in}
use Rattle.mono_model.specs.declared.breaks.BreakMove.{BreakMove}
use Rattle.mono_model.specs.Calls.{Caller, is_exit, BRK, MUNMAP, MMAP, MPROTECT, ENOMEM, EINVAL, error, silently, finished, finished_with, memory_at, munmap_known, mmap_known, mprotect_known, grow_break, shrink_break, map_from, map_pages, free_pages}
use Rattle.mono_model.specs.Mapping.{MOST_PAGES, is_page_start, pages_for, lowest_free}
use Rattle.mono_model.specs.Starting.{STACK_PAGE}
use Rattle.mono_model.proofs.Mapping.{lowest_free-here, lowest_free-next, lowest_free-end}
use Rattle.libos_state.specs.declared.cont.Cont.{Cont}
use Rattle.libos_state.specs.declared.cont.Stage.{Stage}
use Rattle.libos_state.specs.declared.cont.Stage.TheVariants.{SetContext, AllocatePages, FreePages, ProtectPages}
use Rattle.libos_state.specs.declared.state.LibOs.{LibOs}
use Rattle.libos_state.specs.Records.{View, Visible, visible, with_visible, base}
use Rattle.libos_state.specs.declared.step.Change.TheVariants.{Same, MovesBreak}
use Rattle.libos_state.specs.declared.step.Step.TheVariants.{GivesBreak}
use Rattle.libos_state.specs.Breaks.{break_goes}
use Rattle.libos_state.specs.Pending.{asked, upcall_in, argument, number, is_brk}
use Rattle.libos_state.specs.Answered.{bare, goes_on, with_step, with_change, service_with_result, service_mapping, mapping_step, changed_step, answered_at}
use Rattle.libos_state.specs.Meaning.{Meaning, caller_in, leads_to, meant_at}
use Rattle.libos_state.specs.Named.{named_as}
use Rattle.libos_state.specs.Fits.{FitsRecords, FitsObjects, FitsStage, FitsEvent, FitsTrap, KeepsPages, KeepsMade, comes_to, is_call, is_of_start, is_recorded, is_undecided, is_growth, is_shrinking, moves_break, returns}
use Rattle.libos_state.proofs.Holds.{Holds}
use Rattle.libos_state.proofs.Rows.{Stands, by_row}
use Rattle.libos_state.proofs.Naming.{Trapped}
use Rattle.libos_state.proofs.ChangedMemory as changed
use Rattle.libos_state.proofs.Pages.{is_run-below_stack}
use Rattle.libos_state.proofs.Serving.{returns-call, trap_of, on_trap, named_as-no_kinds, numbers_fit, result_fits, FitsTrap-with_service}
use Rattle.libos_state.proofs.Views.{AnswersAs, answer, on_objects}

-- ---- a call on pages, by its trap

absent : (x : Option ℕ) → not (is_some x) ≡ true → x ≡ None
absent None is = refl
absent (Some n) is = absurd (cc)

-- A call whose arguments alone decide nothing.
pub record Undecided (os : LibOs) (u : Upcall) (number : ℕ) (known : Option ℕ) : Type 0 where
  pub call : (u.cause == 8) ≡ true
  pub number_is : (register u.context 17 == number) ≡ true
  pub unknown : known ≡ None
  pub recorded : is_recorded os u ≡ true

pub undecided : (os : LibOs) (u : Upcall) (number : ℕ) (known : Option ℕ) → is_undecided os u number known ≡ true → Undecided os u number known
undecided os u number known is =
    let parts = and_parts (is_call u number) (not (is_some known) && is_recorded os u) is in
    let call = and_parts (u.cause == 8) (register u.context 17 == number) parts.0 in
    let rest = and_parts (not (is_some known)) (is_recorded os u) parts.1 in
    record { call = call.0; number_is = call.1; unknown = absent known rest.0; recorded = rest.1 }

-- It goes on behind itself, if it isn't an exit.
pub returns-undecided : (os : LibOs) (u : Upcall) (number : ℕ) (known : Option ℕ) → is_exit number ≡ false → Undecided os u number known → returns os u ≡ true
returns-undecided os u number known other is =
    returns-call os u is.call (ap is_exit (eqb-true (register u.context 17) number is.number_is) ∙ other) is.recorded

pages_some : (bytes : ℕ) → (bytes == 0) ≡ false → 1 ≤ pages_for bytes
pages_some bytes some = let more = eqb-false bytes 0 some in omega arith

-- What its arguments are then: some pages, and rights that there are.
pub munmap_asks : (cx : Context) → munmap_known cx ≡ None → 1 ≤ pages_for (register cx 11)
munmap_asks cx none = asks (not (is_page_start (register cx 10))) (register cx 11 == 0) refl none
  where
    asks : (b empty : Bool) → (register cx 11 == 0) ≡ empty → (if b || empty then Some (error EINVAL) else None) ≡ None → 1 ≤ pages_for (register cx 11)
    asks true empty is none = absurd (cc)
    asks false true is none = absurd (cc)
    asks false false is none = pages_some (register cx 11) is

pub mprotect_asks : (cx : Context) → mprotect_known cx ≡ None → (register cx 12 ≤ 7) × (1 ≤ pages_for (register cx 11))
mprotect_asks cx none = asks (not (is_page_start (register cx 10))) (nat_lt 7 (register cx 12)) (register cx 11 == 0) refl refl none
  where
    asks : (b past empty : Bool) → nat_lt 7 (register cx 12) ≡ past → (register cx 11 == 0) ≡ empty
        → (if b || past then Some (error EINVAL) else (if empty then Some 0 else None)) ≡ None → (register cx 12 ≤ 7) × (1 ≤ pages_for (register cx 11))
    asks true past empty p e none = absurd (cc)
    asks false true empty p e none = absurd (cc)
    asks false false true p e none = absurd (cc)
    asks false false false p e none = (ltb-false 7 (register cx 12) p, pages_some (register cx 11) e)

pub mmap_asks : (cx : Context) → mmap_known cx ≡ None → (register cx 12 ≤ 7) × (1 ≤ pages_for (register cx 11)) × (pages_for (register cx 11) ≤ MOST_PAGES)
mmap_asks cx none = asks (register cx 11 == 0) (nat_lt 7 (register cx 12)) (not (register cx 13 == 0x22)) (nat_lt MOST_PAGES (pages_for (register cx 11))) refl refl refl none
  where
    asks : (empty past flags many : Bool) → (register cx 11 == 0) ≡ empty → nat_lt 7 (register cx 12) ≡ past → nat_lt MOST_PAGES (pages_for (register cx 11)) ≡ many
        → (if empty || (past || flags) then Some (error EINVAL) else (if many then Some (error ENOMEM) else None)) ≡ None
        → (register cx 12 ≤ 7) × (1 ≤ pages_for (register cx 11)) × (pages_for (register cx 11) ≤ MOST_PAGES)
    asks true past flags many e p m none = absurd (cc)
    asks false true flags many e p m none = absurd (cc)
    asks false false true many e p m none = absurd (cc)
    asks false false false true e p m none = absurd (cc)
    asks false false false false e p m none =
        (ltb-false 7 (register cx 12) p, pages_some (register cx 11) e, ltb-false MOST_PAGES (pages_for (register cx 11)) m)

-- ---- what follows on a reply

-- A stage of a call on pages.
pub record Paging (os : LibOs) (c : Cont) (w : View) (stage : Stage) (number : ℕ) (known : Option ℕ) : Type 0 where
  pub serves : is_of_start stage ≡ false
  pub records : FitsRecords os
  pub objects : FitsObjects os w.objects [] None
  pub event : FitsEvent os w.objects c.event stage
  pub call : Undecided os (upcall_in c.event) number known
  pub goes : returns os (upcall_in c.event) ≡ true

pub paging : (os : LibOs) (c : Cont) (w : View) (stage : Stage) (number : ℕ) (known : Option ℕ) → is_of_start stage ≡ false → is_exit number ≡ false
    → FitsRecords os → FitsObjects os w.objects (named_as c.handles []) None → FitsEvent os w.objects c.event stage
    → (comes_to os (upcall_in c.event) stage ≡ true → is_undecided os (upcall_in c.event) number known ≡ true) → Paging os c w stage number known
paging os c w stage number known serves other records objects event comes =
    let call = undecided os (upcall_in c.event) number known (comes (trap_of os w.objects c.event stage serves event).comes) in
    record {
      serves = serves;
      records = records;
      objects = subst (λ kept. FitsObjects os w.objects kept None) (named_as-no_kinds c.handles) objects;
      event = event;
      call = call;
      goes = returns-undecided os (upcall_in c.event) number known other call;
    }

module _ (os : LibOs) (c : Cont) (w : View) (stage : Stage) (number : ℕ) (known : Option ℕ) (at : Paging os c w stage number known) where
  abbrev u : Upcall
  u = upcall_in c.event

  abbrev v : Visible
  v = visible w

  abbrev m : Mono
  m = base os v

  abbrev who : Caller
  who = caller_in os c

  abbrev gives : ℕ → Cont
  gives result = service_with_result c result

  pub trap : FitsTrap os w.objects u stage
  trap = trap_of os w.objects c.event stage at.serves at.event

  abbrev trap_behind : FitsTrap os w.objects u SetContext
  trap_behind = record { up = trap.up; first = trap.first; current = trap.current; home = trap.home; comes = at.goes }

  abbrev pub home : Trapped os w.objects u
  home = changed.home os c w at.records at.objects trap_behind

  abbrev s : Space
  s = home.links.memory

  pub memory_is : memory_at m who.process ≡ s
  memory_is = changed.memory_is os c w at.records at.objects trap_behind

  pub there : object_at w.objects u.process ≡ Some (Process s None)
  there = changed.there os c w at.records at.objects trap_behind

  -- the process has other pages, and the call gives a result
  module _ (new : Space) where
    abbrev after : Objects
    after = with_pages w.objects u.process new

    pub base_after : base os (with_visible v after) ≡ with_memory_in m who.process new (process_at m who.process)
    base_after = changed.base_after os c w at.records at.objects trap_behind new

    pub after_trap : (cont : Option Cont) → FitsTrap (record os { cont = cont }) after u SetContext
    after_trap cont = changed.after_trap os c w at.records at.objects trap_behind new cont

    pub changed_stands : (result : ℕ) → Stands (goes_on os (gives result)) (with_visible v after) (leads_to (silently (finished_with m who new result)))
    changed_stands result = changed.changed_stands os c w at.records at.objects trap_behind new
        (λ os' o behind. on_trap os os' w.objects o c.event stage SetContext at.serves at.event behind) result

  -- the event at a further stage of the call
  pub event_at : (next : Cont) (stage' : Stage) → comes_to os u stage' ≡ true → FitsEvent (goes_on os next) w.objects c.event stage'
  event_at next stage' comes =
      on_trap os (goes_on os next) w.objects w.objects c.event stage stage' at.serves at.event (FitsTrap-with_service os (Some next) w.objects u stage stage' trap comes)

  -- the call gives a result alone
  pub result_stands : (result : ℕ) → Stands (goes_on os (gives result)) v (leads_to (silently (finished m who result)))
  result_stands result = record {
    fits = result_fits os w.objects c result at.records at.objects (event_at (gives result) SetContext at.goes);
    means = refl;
  }

  -- what stands for what the stage stood for
  abbrev IsMeant : LibOs → Objects → Type 0
  IsMeant l o = Stands l (with_visible v o) (meant_at os v c stage)

  -- ---- pages that are there change, or one isn't there
  pub whole_holds : (w' : View) (r : Reply) (new : Space) (errno : ℕ) (missing : Bool) → AnswersAs w (asked os c stage) r w' →
      answer w (asked os c stage) r ≡ on_objects w (cond missing (BadAddress, w.objects) (Done, with_pages w.objects u.process new)) →
      answered_at os c stage BadAddress ≡ goes_on os (gives (error errno)) → answered_at os c stage Done ≡ goes_on os (gives 0) →
      leads_to (silently (cond (not missing) (finished_with m who new 0) (finished m who (error errno)))) ≡ meant_at os v c stage → Holds os c stage w r w'
  whole_holds w' r new errno true abi row fails done means =
      by_row os c stage w w' r BadAddress w.objects abi row
      (subst (λ (l : LibOs). IsMeant l w.objects) (sym fails) (subst (Stands (goes_on os (gives (error errno))) v) means (result_stands (error errno))))
  whole_holds w' r new errno false abi row fails done means =
      by_row os c stage w w' r Done (after new) abi row
      (subst (λ (l : LibOs). IsMeant l (after new)) (sym done) (subst (Stands (goes_on os (gives 0)) (with_visible v (after new))) means (changed_stands new 0)))

pub some_pages : (count : ℕ) → 1 ≤ count → (count == 0) ≡ false
some_pages count some = ne_eqb count 0 (λ none. absurd (omega arith))

-- ---- by its number

-- A stage that brk comes to, and another call, is of brk or of the other.
pub unless_brk : (os : LibOs) (u : Upcall) (so : BreakMove → Bool) (undecided : Bool) → (register u.context 17 == BRK) ≡ false → (undecided || moves_break os u so) ≡ true → undecided ≡ true
unless_brk os u so true other comes = refl
unless_brk os u so false other comes =
    let parts = and_parts (is_call u BRK) (so (break_goes os u) && is_recorded os u) comes in
    absurd (both_ways (register u.context 17 == BRK) other ((and_parts (u.cause == 8) (register u.context 17 == BRK) parts.0).1))

pub by_brk : (os : LibOs) (u : Upcall) (so : BreakMove → Bool) (n : ℕ) (known : Option ℕ) → (BRK == n) ≡ false → (register u.context 17 == BRK) ≡ true
    → (is_undecided os u n known || moves_break os u so) ≡ true → moves_break os u so ≡ true
by_brk os u so n known apart is comes = elim (is_undecided os u n known) as (λ b. is_undecided os u n known ≡ b → (b || moves_break os u so) ≡ true → moves_break os u so ≡ true) [
  | true ↦ λ undecides _. absurd (both_ways (register u.context 17 == n) (ap (λ k. k == n) (eqb-true (register u.context 17) BRK is) ∙ apart)
      ((undecided os u n known undecides).number_is))
  | false ↦ λ _ moves. moves
] refl comes

-- ---- pages go

pub free_row : (os : LibOs) (c : Cont) (w : View) (r : Reply) (n : ℕ) (known : Option ℕ) (at : Paging os c w FreePages n known) → 1 ≤ number c 1 →
    let s = (home os c w FreePages n known at).links.memory in
    answer w (asked os c FreePages) r ≡ on_objects w (cond (is_some (first_missing s (number c 0) (number c 1))) (BadAddress, w.objects)
    (Done, with_pages w.objects (upcall_in c.event).process (without_run s (number c 0) (number c 1))))
free_row os c w r n known at some =
    let p = (upcall_in c.event).process in
    let s = (home os c w FreePages n known at).links.memory in
    let missing = is_some (first_missing s (number c 0) (number c 1)) in
    ap (λ x. on_objects w (memory_free_row w.objects p (number c 0) (number c 1) (running x))) (there os c w FreePages n known at)
    ∙ ap (λ none. on_objects w (if none || missing then (BadAddress, w.objects) else (Done, with_pages w.objects p (without_run s (number c 0) (number c 1))))) (some_pages (number c 1) some)

pub keeps_unmap_pages : (os : LibOs) (c : Cont) (w w' : View) (r : Reply) → is_brk c ≡ false → FitsStage os w.objects c FreePages → AnswersAs w (asked os c FreePages) r w' → Holds os c FreePages w r w'
keeps_unmap_pages os c w w' r other fits abi =
    let u = upcall_in c.event in
    let known = munmap_known u.context in
    let at = paging os c w FreePages MUNMAP known refl refl fits.records fits.objects fits.event (unless_brk os u is_shrinking (is_undecided os u MUNMAP known) other) in
    let s = (home os c w FreePages MUNMAP known at).links.memory in
    let page = number c 0 in
    let count = number c 1 in
    let missing = is_some (first_missing s page count) in
    let means = sym (ap (λ (s : Space). leads_to (silently (cond (not (is_some (first_missing s page count)))
    (finished_with (base os (visible w)) (caller_in os c) (without_run s page count) 0) (finished (base os (visible w)) (caller_in os c) (error EINVAL)))))
    (memory_is os c w FreePages MUNMAP known at))
    ∙ ap (λ brk. leads_to (silently (if brk then shrink_break (base os (visible w)) (caller_in os c) page count else free_pages (base os (visible w)) (caller_in os c) page count))) (sym other) in
    whole_holds os c w FreePages MUNMAP known at w' r (without_run s page count) EINVAL missing abi (free_row os c w r MUNMAP known at fits.kept)
    (ap (λ brk. with_step os (if brk then GivesBreak c else changed_step c EINVAL BadAddress)) other)
    (ap (λ brk. with_step (with_change os (if brk then MovesBreak u.process (argument c 0) else Same)) (if brk then GivesBreak c else changed_step c EINVAL Done)) other)
    means

-- ---- pages get other rights

pub keeps_protect_pages : (os : LibOs) (c : Cont) (w w' : View) (r : Reply) → FitsStage os w.objects c ProtectPages → IsSound w.objects → AnswersAs w (asked os c ProtectPages) r w' → Holds os c ProtectPages w r w'
keeps_protect_pages os c w w' r fits sound abi =
    let u = upcall_in c.event in
    let known = mprotect_known u.context in
    let at = paging os c w ProtectPages MPROTECT known refl refl fits.records fits.objects fits.event (λ comes. comes) in
    let s = (home os c w ProtectPages MPROTECT known at).links.memory in
    let page = number c 0 in
    let count = number c 1 in
    let rights = argument c 2 in
    let missing = is_some (first_missing s page count) in
    let few : nat_lt 7 rights ≡ false = le-ltb 7 rights ((mprotect_asks u.context at.call.unknown).0) in
    let none = some_pages count fits.kept in
    let row = ap (λ x. on_objects w (memory_protect_row w.objects u.process page count rights (running x))) (there os c w ProtectPages MPROTECT known at)
    ∙ (λ i. on_objects w (if none i || (missing || few i) then (BadAddress, w.objects) else (Done, with_pages w.objects u.process (protected s page count rights))))
    ∙ ap (λ b. on_objects w (if b then (BadAddress, w.objects) else (Done, with_pages w.objects u.process (protected s page count rights)))) (or-false missing) in
    let means = sym (ap (λ (s : Space). leads_to (silently (cond (not (is_some (first_missing s page count)))
    (finished_with (base os (visible w)) (caller_in os c) (protected s page count rights) 0) (finished (base os (visible w)) (caller_in os c) (error ENOMEM)))))
    (memory_is os c w ProtectPages MPROTECT known at)) in
    whole_holds os c w ProtectPages MPROTECT known at w' r (protected s page count rights) ENOMEM missing abi row refl refl means

-- ---- pages are made

module _ (os : LibOs) (c : Cont) (w w' : View) (r : Reply) (other : is_brk c ≡ false) (fits : FitsStage os w.objects c AllocatePages) (abi : AnswersAs w (asked os c AllocatePages) r w') where
  abbrev trap_u : Upcall
  trap_u = upcall_in c.event

  abbrev decided : Option ℕ
  decided = mmap_known trap_u.context

  mapping : Paging os c w AllocatePages MMAP decided
  mapping = paging os c w AllocatePages MMAP decided refl refl fits.records fits.objects fits.event (unless_brk os trap_u is_growth (is_undecided os trap_u MMAP decided) other)

  abbrev memory : Space
  memory = (home os c w AllocatePages MMAP decided mapping).links.memory

  abbrev page : ℕ
  page = number c 0

  abbrev count : ℕ
  count = number c 1

  abbrev rights : ℕ
  rights = argument c 2

  abbrev before : Mono
  before = base os (visible w)

  abbrev caller : Caller
  caller = caller_in os c

  -- what the stage stands for, by the lowest free run
  abbrev mapped : Option ℕ → Meaning
  mapped x = leads_to (silently (map_pages before caller count x))

  -- by whether it is brk's
  abbrev meant_if : ℕ → Bool → Meaning
  meant_if from brk = leads_to (silently (if brk then grow_break before caller from count else map_from before caller from count))

  meant_from : (from : ℕ) → leads_to (silently (map_from before caller from count)) ≡ mapped (lowest_free memory from count)
  meant_from from = ap (λ (s : Space). mapped (lowest_free s from count)) (memory_is os c w AllocatePages MMAP decided mapping)

  kept : KeepsPages c
  kept = subst (KeepsMade c) other fits.kept

  abbrev made : Space → Bool → Mono
  made s full = if full then finished before caller (error ENOMEM) else finished_with before caller (with_run s page count rights) (page * 4096)

  mapped_here : (full : Bool) → nat_lt MOST_PAGES (len memory + count) ≡ full → mapped (Some page) ≡ leads_to (silently (made memory full))
  mapped_here full is =
      ap (λ (s : Space). leads_to (silently (made s (nat_lt MOST_PAGES (len s + count))))) (memory_is os c w AllocatePages MMAP decided mapping)
      ∙ ap (λ b. leads_to (silently (made memory b))) is

  abbrev objects_with : Objects
  objects_with = with_pages w.objects trap_u.process (with_run memory page count rights)

  abbrev row_by : Bool → Bool → Reply × Objects
  row_by held full = if held then (Exists, w.objects) else (if full then (NoRoom, w.objects) else (Done, objects_with))

  row_mapped : (held full : Bool) → is_some (first_held memory page count) ≡ held → nat_lt MOST_PAGES (len memory + count) ≡ full
      → answer w (asked os c AllocatePages) r ≡ on_objects w (row_by held full)
  row_mapped held full h f =
      let run = is_run-below_stack page count (let above = kept.above in omega arith) kept.some kept.below in
      let few = le-leb rights 7 ((mmap_asks trap_u.context mapping.call.unknown).0) in
      ap (λ brk. on_objects w (memory_allocate_row w.objects trap_u.process page count (if brk then 3 else rights) (running (object_at w.objects trap_u.process)))) other
      ∙ ap (λ x. on_objects w (memory_allocate_row w.objects trap_u.process page count rights (running x))) (there os c w AllocatePages MMAP decided mapping)
      ∙ (λ i. on_objects w (if not (run i && few i) then (BadAddress, w.objects) else row_by (h i) (f i)))

  -- a page of the run is there: the next run is tried, if it ends below the stack
  next_stands : is_some (first_held memory page count) ≡ true → (below : Bool) → nat_le (page + 1 + count) STACK_PAGE ≡ below
      → Stands (goes_on os (if below then record (bare c AllocatePages) { numbers = (page + 1) ∷ count ∷ [] } else service_with_result c (error ENOMEM))) (visible w)
      (mapped (lowest_free memory page count))
  next_stands held true below =
      let next = record (bare c AllocatePages) { numbers = (page + 1) ∷ count ∷ [] } in
      let above = kept.above in
      let higher : KeepsPages next = record { some = kept.some; few = kept.few; above = omega arith; below = leb-true (page + 1 + count) STACK_PAGE below } in
      let comes = (trap_of os w.objects c.event AllocatePages refl fits.event).comes in
      record {
        fits = numbers_fit os w.objects c AllocatePages ((page + 1) ∷ count ∷ []) mapping.records mapping.objects
            (event_at os c w AllocatePages MMAP decided mapping next AllocatePages comes) refl refl refl refl (subst (KeepsMade next) (sym other) higher) tt;
        means = ap (meant_if (page + 1)) other ∙ meant_from (page + 1) ∙ ap mapped (sym (lowest_free-next memory count page kept.below (ap not held)));
      }
  next_stands held false past =
      let above = leb-false (page + 1 + count) STACK_PAGE past in
      subst (Stands (goes_on os (service_with_result c (error ENOMEM))) (visible w))
      (ap mapped (sym (lowest_free-next memory count page kept.below (ap not held) ∙ lowest_free-end memory count (page + 1) above)))
      (result_stands os c w AllocatePages MMAP decided mapping (error ENOMEM))

  by_mapping : (reply : Reply) (o : Objects) → answer w (asked os c AllocatePages) r ≡ on_objects w (reply, o) → answered_at os c AllocatePages reply ≡ with_step os (mapping_step c reply)
      → Stands (with_step os (mapping_step c reply)) (with_visible (visible w) o) (leads_to (silently (map_from before caller page count))) → Holds os c AllocatePages w r w'
  by_mapping reply o row same stands =
      by_row os c AllocatePages w w' r reply o abi row
      (subst (λ (l : LibOs). Stands l (with_visible (visible w) o) (meant_at os (visible w) c AllocatePages)) (sym same)
      (subst (Stands (with_step os (mapping_step c reply)) (with_visible (visible w) o)) (ap (meant_if page) (sym other)) stands))

  steps : (reply : Reply) → with_step os (if is_brk c then GivesBreak c else mapping_step c reply) ≡ with_step os (mapping_step c reply)
  steps reply = ap (λ brk. with_step os (if brk then GivesBreak c else mapping_step c reply)) other

  -- by the host's answer
  mapping_holds : (held full : Bool) → is_some (first_held memory page count) ≡ held → nat_lt MOST_PAGES (len memory + count) ≡ full → Holds os c AllocatePages w r w'
  mapping_holds true full h f =
      by_mapping Exists w.objects (row_mapped true full h f) (steps Exists)
      (subst (Stands (goes_on os (service_mapping c (page + 1) count)) (visible w)) (sym (meant_from page)) (next_stands h (nat_le (page + 1 + count) STACK_PAGE) refl))
  mapping_holds false true h f =
      let here = ap mapped (sym (lowest_free-here memory count page kept.below (ap not h))) ∙ sym (meant_from page) in
      by_mapping NoRoom w.objects (row_mapped false true h f) (steps NoRoom)
      (subst (Stands (goes_on os (service_with_result c (error ENOMEM))) (visible w)) (sym (mapped_here true f) ∙ here)
      (result_stands os c w AllocatePages MMAP decided mapping (error ENOMEM)))
  mapping_holds false false h f =
      let here = ap mapped (sym (lowest_free-here memory count page kept.below (ap not h))) ∙ sym (meant_from page) in
      by_mapping Done objects_with (row_mapped false false h f)
      (ap (λ brk. with_step (with_change os (if brk then MovesBreak trap_u.process (argument c 0) else Same)) (if brk then GivesBreak c else mapping_step c Done)) other)
      (subst (Stands (goes_on os (service_with_result c (page * 4096))) (with_visible (visible w) objects_with)) (sym (mapped_here false f) ∙ here)
      (changed_stands os c w AllocatePages MMAP decided mapping (with_run memory page count rights) (page * 4096)))

pub keeps_map_pages : (os : LibOs) (c : Cont) (w w' : View) (r : Reply) → is_brk c ≡ false → FitsStage os w.objects c AllocatePages → AnswersAs w (asked os c AllocatePages) r w' → Holds os c AllocatePages w r w'
keeps_map_pages os c w w' r other fits abi =
    let s = memory os c w w' r other fits abi in
    mapping_holds os c w w' r other fits abi (is_some (first_held s (number c 0) (number c 1))) (nat_lt MOST_PAGES (len s + number c 1)) refl refl
