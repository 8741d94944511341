-- The stages of brk, at which pages are made or go before the break moves.
use Rattle.std.specs.Prelude.{◌≡◌, ℕ, ◌+◌, Bool, true, false, cond, not, ◌&&◌, if◌then◌else◌, nat_lt, [], is_some}
use Rattle.std.specs.FinMap.{len}
use Rattle.std.specs.declared.option.Option.TheVariants.{None}
use Rattle.std.proofs.Common.{refl, sym, ap, subst, ◌∙◌}
use Rattle.std.proofs.lemmas.Bool.{and_parts, and_from}
use Rattle.guest_space.specs.Space.{Space, with_run, without_run}
use Rattle.guest_space.specs.Run.{is_run, first_held, first_missing}
use Rattle.abi_calls.specs.declared.reply.Reply.{Reply}
use Rattle.abi_calls.specs.declared.reply.Reply.TheVariants.{Done, Exists, BadAddress, NoRoom}
use Rattle.abi_calls.specs.declared.threads.Upcall.{Upcall}
use Rattle.abi_calls.specs.Objects.{Objects, object_at, running}
use Rattle.abi_calls.specs.Memory.{with_pages, memory_allocate_row}
use Rattle.abi_calls.specs.Sound.{IsSound}
use Rattle.mono_model.specs.declared.breaks.BreakMove.{BreakMove}
use Rattle.mono_model.specs.Machine.{Mono}
use Rattle.mono_model.specs.Calls.{Caller, BRK, MMAP, MUNMAP, EINVAL, silently, munmap_known, mmap_known, break_given, break_moved, break_moved_with, grow_break, shrink_break, map_from, free_pages}
use Rattle.mono_model.specs.Mapping.{MOST_PAGES, is_whole}
use Rattle.mono_model.specs.Breaks.{can_be_made}
use Rattle.libos_state.specs.declared.cont.Cont.{Cont}
use Rattle.libos_state.specs.declared.cont.Stage.{Stage}
use Rattle.libos_state.specs.declared.cont.Stage.TheVariants.{SetContext, AllocatePages, FreePages}
use Rattle.libos_state.specs.declared.state.LibOs.{LibOs}
use Rattle.libos_state.specs.declared.step.Change.TheVariants.{Same, MovesBreak}
use Rattle.libos_state.specs.declared.step.Step.TheVariants.{GivesBreak}
use Rattle.libos_state.specs.Records.{View, Visible, visible, with_visible, base}
use Rattle.libos_state.specs.Breaks.{break_goes, with_break}
use Rattle.libos_state.specs.Pending.{asked, upcall_in, argument, number, is_brk}
use Rattle.libos_state.specs.Answered.{with_step, with_change, gives_break, mapping_step, changed_step}
use Rattle.libos_state.specs.Meaning.{Meaning, caller_in, leads_to}
use Rattle.libos_state.specs.Fits.{FitsStage, FitsTrap, is_call, is_recorded, is_undecided, is_growth, is_shrinking, moves_break}
use Rattle.libos_state.proofs.Holds.{Holds}
use Rattle.libos_state.proofs.Rows.{Stands, by_row}
use Rattle.libos_state.proofs.Views.{AnswersAs, answer, on_objects}
use Rattle.libos_state.proofs.Pages.{FitsObjects-pages}
use Rattle.libos_state.proofs.Serving.{trap_of, on_trap, FitsTrap-with_service}
use Rattle.libos_state.proofs.Breaks.{given_stands, moved_stands}
use Rattle.libos_state.proofs.Mapping.{Paging, paging, by_brk, home, memory_is, there, base_after, after_trap, free_row, keeps_unmap_pages, keeps_map_pages}

-- A brk that moves its break over pages is a call whose arguments alone don't decide its result.
brk_undecided : (os : LibOs) (u : Upcall) (so : BreakMove → Bool) → moves_break os u so ≡ true → is_undecided os u BRK None ≡ true
brk_undecided os u so moves =
    let parts = and_parts (is_call u BRK) (so (break_goes os u) && is_recorded os u) moves in
    and_from (is_call u BRK) (is_recorded os u) parts.0 ((and_parts (so (break_goes os u)) (is_recorded os u) parts.1).1)

-- ---- the break moves with other pages, or stays

module _ (os : LibOs) (c : Cont) (w : View) (stage : Stage) (at : Paging os c w stage BRK None) where
  abbrev u : Upcall
  u = upcall_in c.event

  abbrev v : Visible
  v = visible w

  abbrev m : Mono
  m = base os v

  abbrev who : Caller
  who = caller_in os c

  abbrev s : Space
  s = (home os c w stage BRK None at).links.memory

  abbrev after : Space → Objects
  after new = with_pages w.objects u.process new

  trap : FitsTrap os w.objects u stage
  trap = trap_of os w.objects c.event stage at.serves at.event

  stays_stand : Stands (gives_break os c) v (leads_to (silently (break_given m who)))
  stays_stand = given_stands os v c at.records at.objects
      (on_trap os os w.objects w.objects c.event stage SetContext at.serves at.event (FitsTrap-with_service os os.cont w.objects u stage SetContext trap at.goes))

  moves_stand : (new : Space) → Stands (gives_break (with_break os u.process (argument c 0)) c) (with_visible v (after new)) (leads_to (silently (break_moved_with m who new)))
  moves_stand new =
      subst (Stands (gives_break (with_break os u.process (argument c 0)) c) (with_visible v (after new)))
      (ap (λ (n : Mono). leads_to (silently (break_moved n who))) (base_after os c w stage BRK None at new))
      (moved_stands os (with_visible v (after new)) c at.records (FitsObjects-pages os w.objects u.process s new [] (there os c w stage BRK None at) at.objects)
      (on_trap os os w.objects (after new) c.event stage SetContext at.serves at.event (after_trap os c w stage BRK None at new os.cont)))

-- ---- pages are made

module _ (os : LibOs) (c : Cont) (w w' : View) (r : Reply) (brk : is_brk c ≡ true) (fits : FitsStage os w.objects c AllocatePages) (abi : AnswersAs w (asked os c AllocatePages) r w') where
  abbrev process : ℕ
  process = (upcall_in c.event).process

  growing : Paging os c w AllocatePages BRK None
  growing = paging os c w AllocatePages BRK None refl refl fits.records fits.objects fits.event
      (λ comes. brk_undecided os (upcall_in c.event) is_growth (by_brk os (upcall_in c.event) is_growth MMAP (mmap_known (upcall_in c.event).context) refl brk comes))

  abbrev memory : Space
  memory = (home os c w AllocatePages BRK None growing).links.memory

  abbrev page : ℕ
  page = number c 0

  abbrev count : ℕ
  count = number c 1

  abbrev machine : Mono
  machine = base os (visible w)

  abbrev caller : Caller
  caller = caller_in os c

  abbrev made : Objects
  made = with_pages w.objects process (with_run memory page count 3)

  abbrev row_by : Bool → Bool → Bool → Reply × Objects
  row_by run held full = if not (run && true) then (BadAddress, w.objects) else (if held then (Exists, w.objects) else (if full then (NoRoom, w.objects) else (Done, made)))

  abbrev meant_if : Bool → Meaning
  meant_if b = leads_to (silently (if b then grow_break machine caller page count else map_from machine caller page count))

  -- what it stands for, by the pages that are there
  abbrev grown : Bool → Meaning
  grown can = leads_to (silently (if can then break_moved_with machine caller (with_run memory page count 3) else break_given machine caller))

  module _ (run held full : Bool) (on : is_run page count ≡ run) (there_is : is_some (first_held memory page count) ≡ held) (many : nat_lt MOST_PAGES (len memory + count) ≡ full) where
    grow_row : answer w (asked os c AllocatePages) r ≡ on_objects w (row_by run held full)
    grow_row =
        ap (λ b. on_objects w (memory_allocate_row w.objects process page count (if b then 3 else argument c 2) (running (object_at w.objects process)))) brk
        ∙ ap (λ x. on_objects w (memory_allocate_row w.objects process page count 3 (running x))) (there os c w AllocatePages BRK None growing)
        ∙ (λ i. on_objects w (row_by (on i) (there_is i) (many i)))

    grow_meant : meant_if (is_brk c) ≡ grown (run && (not held && not full))
    grow_meant =
        ap meant_if brk
        ∙ ap (λ (s : Space). leads_to (silently (if can_be_made s page count then break_moved_with machine caller (with_run s page count 3) else break_given machine caller)))
        (memory_is os c w AllocatePages BRK None growing)
        ∙ (λ i. grown (on i && (not (there_is i) && not (many i))))

    -- the pages can't be had
    refused : (reply : Reply) → answer w (asked os c AllocatePages) r ≡ on_objects w (reply, w.objects) → grown (run && (not held && not full)) ≡ grown false
        → Stands (with_step os (if is_brk c then GivesBreak c else mapping_step c reply)) (visible w) (meant_if (is_brk c))
    refused reply row none =
        subst (λ b. Stands (with_step os (if b then GivesBreak c else mapping_step c reply)) (visible w) (meant_if (is_brk c))) (sym brk)
        (subst (Stands (gives_break os c) (visible w)) (sym (grow_meant ∙ none)) (stays_stand os c w AllocatePages growing))

  grow_holds : (run held full : Bool) → is_run page count ≡ run → is_some (first_held memory page count) ≡ held → nat_lt MOST_PAGES (len memory + count) ≡ full → Holds os c AllocatePages w r w'
  grow_holds false held full on h f =
      let row = grow_row false held full on h f in
      by_row os c AllocatePages w w' r BadAddress w.objects abi row (refused false held full on h f BadAddress row refl)
  grow_holds true true full on h f =
      let row = grow_row true true full on h f in
      by_row os c AllocatePages w w' r Exists w.objects abi row (refused true true full on h f Exists row refl)
  grow_holds true false true on h f =
      let row = grow_row true false true on h f in
      by_row os c AllocatePages w w' r NoRoom w.objects abi row (refused true false true on h f NoRoom row refl)
  grow_holds true false false on h f =
      let row = grow_row true false false on h f in
      by_row os c AllocatePages w w' r Done made abi row
      (subst (λ b. Stands (with_step (with_change os (if b then MovesBreak process (argument c 0) else Same)) (if b then GivesBreak c else mapping_step c Done)) (with_visible (visible w) made) (meant_if (is_brk c))) (sym brk)
      (subst (Stands (gives_break (with_break os process (argument c 0)) c) (with_visible (visible w) made)) (sym (grow_meant true false false on h f))
      (moves_stand os c w AllocatePages growing (with_run memory page count 3))))

  keeps_grow : Holds os c AllocatePages w r w'
  keeps_grow = grow_holds (is_run page count) (is_some (first_held memory page count)) (nat_lt MOST_PAGES (len memory + count)) refl refl refl

-- ---- pages go

module _ (os : LibOs) (c : Cont) (w w' : View) (r : Reply) (brk : is_brk c ≡ true) (fits : FitsStage os w.objects c FreePages) (abi : AnswersAs w (asked os c FreePages) r w') where
  abbrev freed_of : ℕ
  freed_of = (upcall_in c.event).process

  shrinking : Paging os c w FreePages BRK None
  shrinking = paging os c w FreePages BRK None refl refl fits.records fits.objects fits.event
      (λ comes. brk_undecided os (upcall_in c.event) is_shrinking (by_brk os (upcall_in c.event) is_shrinking MUNMAP (munmap_known (upcall_in c.event).context) refl brk comes))

  abbrev pages : Space
  pages = (home os c w FreePages BRK None shrinking).links.memory

  abbrev left : Space
  left = without_run pages (number c 0) (number c 1)

  abbrev freed : Objects
  freed = with_pages w.objects freed_of left

  abbrev meant_of : Bool → Meaning
  meant_of b = leads_to (silently (if b then shrink_break (base os (visible w)) (caller_in os c) (number c 0) (number c 1) else free_pages (base os (visible w)) (caller_in os c) (number c 0) (number c 1)))

  abbrev shrunk : Space → Meaning
  shrunk s = leads_to (silently (if is_whole s (number c 0) (number c 1) then break_moved_with (base os (visible w)) (caller_in os c) (without_run s (number c 0) (number c 1)) else break_given (base os (visible w)) (caller_in os c)))

  abbrev shrunk_if : Bool → Meaning
  shrunk_if missing = leads_to (silently (if not missing then break_moved_with (base os (visible w)) (caller_in os c) left else break_given (base os (visible w)) (caller_in os c)))

  shrink_meant : (missing : Bool) → is_some (first_missing pages (number c 0) (number c 1)) ≡ missing → meant_of (is_brk c) ≡ shrunk_if missing
  shrink_meant missing is = ap meant_of brk ∙ ap shrunk (memory_is os c w FreePages BRK None shrinking) ∙ ap shrunk_if is

  shrink_row : (missing : Bool) → is_some (first_missing pages (number c 0) (number c 1)) ≡ missing → answer w (asked os c FreePages) r ≡ on_objects w (cond missing (BadAddress, w.objects) (Done, freed))
  shrink_row missing is = free_row os c w r BRK None shrinking fits.kept ∙ ap (λ b. on_objects w (cond b (BadAddress, w.objects) (Done, freed))) is

  shrink_holds : (missing : Bool) → is_some (first_missing pages (number c 0) (number c 1)) ≡ missing → Holds os c FreePages w r w'
  shrink_holds true is =
      by_row os c FreePages w w' r BadAddress w.objects abi (shrink_row true is)
      (subst (λ b. Stands (with_step os (if b then GivesBreak c else changed_step c EINVAL BadAddress)) (visible w) (meant_of (is_brk c))) (sym brk)
      (subst (Stands (gives_break os c) (visible w)) (sym (shrink_meant true is)) (stays_stand os c w FreePages shrinking)))
  shrink_holds false is =
      by_row os c FreePages w w' r Done freed abi (shrink_row false is)
      (subst (λ b. Stands (with_step (with_change os (if b then MovesBreak freed_of (argument c 0) else Same)) (if b then GivesBreak c else changed_step c EINVAL Done)) (with_visible (visible w) freed) (meant_of (is_brk c))) (sym brk)
      (subst (Stands (gives_break (with_break os freed_of (argument c 0)) c) (with_visible (visible w) freed)) (sym (shrink_meant false is))
      (moves_stand os c w FreePages shrinking left)))

  keeps_shrink : Holds os c FreePages w r w'
  keeps_shrink = shrink_holds (is_some (first_missing pages (number c 0) (number c 1))) refl

-- ---- the stages

pub keeps_allocate_pages : (os : LibOs) (c : Cont) (w w' : View) (r : Reply) → FitsStage os w.objects c AllocatePages → IsSound w.objects → AnswersAs w (asked os c AllocatePages) r w' → Holds os c AllocatePages w r w'
keeps_allocate_pages os c w w' r fits sound abi = elim (is_brk c) as (λ b. is_brk c ≡ b → Holds os c AllocatePages w r w') [
  | true ↦ λ brk. keeps_grow os c w w' r brk fits abi
  | false ↦ λ other. keeps_map_pages os c w w' r other fits abi
] refl

pub keeps_free_pages : (os : LibOs) (c : Cont) (w w' : View) (r : Reply) → FitsStage os w.objects c FreePages → IsSound w.objects → AnswersAs w (asked os c FreePages) r w' → Holds os c FreePages w r w'
keeps_free_pages os c w w' r fits sound abi = elim (is_brk c) as (λ b. is_brk c ≡ b → Holds os c FreePages w r w') [
  | true ↦ λ brk. keeps_shrink os c w w' r brk fits abi
  | false ↦ λ other. keeps_unmap_pages os c w w' r other fits abi
] refl
