-- The library OS begins to serve a trap: it stands for the machine that has served it.
use Rattle.std.specs.Prelude.{◌≡◌, ℕ, ◌-◌, ◌/◌, ◌%◌, ◌==◌, ◌≤◌, ◌<◌, nat_lt, Bool, true, false, cond, if◌then◌else◌, not, ◌&&◌, ◌||◌, [], ◌∷◌, bit_and, is_some}
use Rattle.std.specs.Option.{option_map}
use Rattle.std.specs.declared.option.Option.{Option}
use Rattle.std.specs.declared.option.Option.TheVariants.{None, Some}
use Rattle.std.proofs.Common.{arith, refl, sym, ap, subst, ◌∙◌, eq-eqb, eqb-true, ltb-true}
use Rattle.std.proofs.lemmas.Bool.{cond-true, and_from, or_left, or_right, and_parts}
use Rattle.turn_sched.specs.Lists.{is_at}
use Rattle.abi_calls.specs.declared.threads.Turned.{Turned}
use Rattle.abi_calls.specs.declared.threads.Turned.TheVariants.{Exception}
use Rattle.abi_calls.specs.declared.threads.Upcall.{Upcall}
use Rattle.abi_calls.specs.Objects.{Objects, object_at}
use Rattle.mono_model.specs.Machine.{Mono, register, process_at}
use Rattle.mono_model.specs.declared.breaks.BreakMove.{BreakMove}
use Rattle.mono_model.specs.declared.breaks.BreakMove.TheVariants.{Grows, Shrinks, Within, Stays}
use Rattle.mono_model.specs.Calls.{Caller, Served, WRITE, BRK, brk, grow_break, shrink_break, MUNMAP, MMAP, MPROTECT, EBADF, ENOSYS, error, unless_known, munmap_known, munmap, free_pages, mprotect_known, mprotect, protect_pages, mmap_known, mmap, map_from, finished, silently, ended, description_of, write, write_to, write_from, writable, moved, exit, is_exit, SCHED_YIELD, GETPID, GETPPID, GETTID, parent_in, EXIT, DUP, DUP3, CLOSE, close, dup, dup3_known, dup3}
use Rattle.mono_model.specs.SystemCalls.{memory_call, fault_code, system_call, served, descriptor_call, file_call}
use Rattle.mono_model.specs.FileCalls.{READ, LSEEK, FSTAT, FTRUNCATE, read, lseek, fstat, ftruncate}
use Rattle.mono_model.specs.Mapping.{FIRST_MAPPED, pages_for}
use Rattle.mono_model.specs.Calls as calls
use Rattle.mono_model.specs.Starting.{Runs}
use Rattle.libos_state.specs.declared.cont.Cont.{Cont}
use Rattle.libos_state.specs.declared.cont.Stage.TheVariants.{SetContext, CloseHandles, ReadBuffer, AllocatePages, FreePages, ProtectPages}
use Rattle.libos_state.specs.declared.cont.Stage.{Stage}
use Rattle.libos_state.specs.declared.notes.Description.{Description}
use Rattle.libos_state.specs.declared.notes.ProcessNote.{ProcessNote}
use Rattle.libos_state.specs.declared.state.LibOs.{LibOs}
use Rattle.libos_state.specs.declared.state.Boot.TheVariants.{Up}
use Rattle.libos_state.specs.Records.{Visible, with_visible, base, description_behind, description_seen, memory_of_object, process_if, process_named, process_with, pid_with, pid_of}
use Rattle.libos_state.specs.Breaks.{break_asked, break_goes}
use Rattle.libos_state.specs.Answered.{goes_on}
use Rattle.libos_state.specs.Entered.{entered, entered_with, result_of, write_entered, ends_process, call_entered, on_pages, munmap_entered, mmap_entered, mprotect_entered, brk_by, brk_entered, memory_entered, handles_of, note_ended, without_process, parent_of, known_result, has_other_thread, ends_thread, exit_entered, close_entered, dup_entered, dup3_unless, descriptor_entered, read_entered, lseek_entered, fstat_entered, ftruncate_entered, file_entered}
use Rattle.libos_state.specs.Meaning.{Meaning, caller_of, leads_to, settles}
use Rattle.libos_state.specs.Fits.{FitsStage, FitsTrap, KeepsPages, KeepsMade, is_growth, is_shrinking, moves_break, comes_to, is_undecided, is_call, is_recorded, is_writable, is_ended_with, writes, returns, is_exit_call}
use Rattle.libos_state.specs.Turned.{FitsTrapped, TurnsTo}
use Rattle.libos_state.specs.Laws.{EntersTurn}
use Rattle.libos_state.proofs.Rows.{Stands}
use Rattle.libos_state.proofs.Going.{FitsRecords-with_service, FitsObjects-with_service}
use Rattle.libos_state.proofs.Naming.{times_named-recorded, times_recorded-most, Trapped, trapped}
use Rattle.libos_state.proofs.Bases.{process_at-found}
use Rattle.libos_state.proofs.Breaks.{given_stands, moved_stands}
use Rattle.libos_state.proofs.Mapping.{munmap_asks, mprotect_asks, mmap_asks}
use Rattle.libos_state.proofs.Serving.{numbers_fit}
use Rattle.libos_state.proofs.EnteredTraps as traps
use Rattle.libos_state.proofs.ReadEntering.{read_stands}
use Rattle.libos_state.proofs.FileEntering.{lseek_stands, fstat_stands, ftruncate_stands}
use Rattle.libos_state.proofs.Writing.{served_write}
use Rattle.libos_state.proofs.Ending.{closing_fits, closing_means}
use Rattle.libos_state.proofs.EndingThread.{has_other_thread-base, thread_ends}
use Rattle.libos_state.proofs.Closing.{process_found, pid_is, process_there, FitsObjects-without_process}
use Rattle.libos_state.proofs.DescriptorCalls.{close_stands, dup_stands, dup3_stands}
use Rattle.libos_state.proofs.Leaving.{base-without_process}
use Rattle.libos_state.proofs.LeftRecords.{process_named-ended, process_with-ended, FitsRecords-without_process}
use Rattle.libos_state.proofs.Turning.{turns}

byte_if : (b : Bool) (x y : ℕ) → x < 256 → y < 256 → (if b then x else y) < 256
byte_if true x y p q = p
byte_if false x y p q = q

fault_byte : (cause : ℕ) → fault_code cause < 256
fault_byte cause =
    byte_if (cause == 2) 132 (if cause == 3 then 133 else (if cause == 0 then 135 else 139)) (omega arith)
    (byte_if (cause == 3) 133 (if cause == 0 then 135 else 139) (omega arith) (byte_if (cause == 0) 135 139 (omega arith) (omega arith)))

-- A break that goes over pages goes over some.
asked_some : (x : Option ProcessNote) (address page count : ℕ) → break_asked x address ≡ Grows page count → 1 ≤ count
asked_some None address page count goes = absurd (cc)
asked_some (Some n) address page count goes = some_grown (pages_for n.break_now) (pages_for address) page count (nat_lt address n.break_start) (nat_lt (pages_for n.break_now) (pages_for address))
    (nat_lt (pages_for address) (pages_for n.break_now)) refl goes
  where
    some_grown : (old new page count : ℕ) (below up down : Bool) → nat_lt old new ≡ up
        → (if below then Stays else (if up then Grows old (new - old) else (if down then Shrinks new (old - new) else Within))) ≡ Grows page count → 1 ≤ count
    some_grown old new page count true up down is goes = absurd (cc)
    some_grown old new page count false true down is goes = let less = ltb-true old new is in let same : new - old ≡ count = cc in omega arith
    some_grown old new page count false false true is goes = absurd (cc)
    some_grown old new page count false false false is goes = absurd (cc)

freed_some : (x : Option ProcessNote) (address page count : ℕ) → break_asked x address ≡ Shrinks page count → 1 ≤ count
freed_some None address page count goes = absurd (cc)
freed_some (Some n) address page count goes = some_shrunk (pages_for n.break_now) (pages_for address) page count (nat_lt address n.break_start) (nat_lt (pages_for n.break_now) (pages_for address))
    (nat_lt (pages_for address) (pages_for n.break_now)) refl goes
  where
    some_shrunk : (old new page count : ℕ) (below up down : Bool) → nat_lt new old ≡ down
        → (if below then Stays else (if up then Grows old (new - old) else (if down then Shrinks new (old - new) else Within))) ≡ Shrinks page count → 1 ≤ count
    some_shrunk old new page count true up down is goes = absurd (cc)
    some_shrunk old new page count false true down is goes = absurd (cc)
    some_shrunk old new page count false false true is goes = let less = ltb-true new old is in let same : old - new ≡ count = cc in omega arith
    some_shrunk old new page count false false false is goes = absurd (cc)

-- Where the trap's process ends, the library OS stands for the machine in which it has ended.
abbrev pub EndsProcess : LibOs → Visible → Upcall → Type 0
EndsProcess os v u = (code : ℕ) → code < 256 → (not (u.cause == 8) || is_exit_call u) ≡ true
    → Stands (ends_process os u code) v (leads_to (silently (ended (base os v) (caller_of os u).process code)))

module _ (os : LibOs) (v : Visible) (u : Upcall) (up : os.boot ≡ Up) (fits : FitsTrapped os v.objects u) (ends : EndsProcess os v u) where
  abbrev m : Mono
  m = base os v

  abbrev who : Caller
  who = caller_of os u

  abbrev home : Trapped os v.objects u
  home = traps.home os v u up fits

  trap_at : (cont : Option Cont) (stage : Stage) → comes_to os u stage ≡ true → FitsTrap (record os { cont = cont }) v.objects u stage
  trap_at cont stage comes = traps.trap_at os v u up fits cont stage comes

  -- a result that is known at once
  result_stands : (result : ℕ) → returns os u ≡ true → Stands (result_of os u result) v (leads_to (silently (finished m who result)))
  result_stands result goes = traps.result_stands os v u up fits result goes

  -- a call that isn't an exit goes on behind itself
  call_returns : (u.cause == 8) ≡ true → is_exit (register u.context 17) ≡ false → returns os u ≡ true
  call_returns call other = traps.call_returns os v u up fits call other

  -- a write of some bytes to a descriptor that is open for writing
  abbrev fd : ℕ
  fd = register u.context 10

  described : description_of m who.process fd ≡ option_map (description_seen v.objects.live) (description_behind os u.process fd)
  described = traps.seen_behind os v u up fits fd

  -- the trap of a write
  record IsWrite : Type 0 where
    call : (u.cause == 8) ≡ true
    number : (register u.context 17 == WRITE) ≡ true

  write_returns : IsWrite → returns os u ≡ true
  write_returns is = call_returns is.call (ap is_exit (eqb-true (register u.context 17) WRITE is.number))

  abbrev reading : Cont
  reading = record (entered_with u) { stage = ReadBuffer }

  write_fits : (d : Description) → IsWrite → description_behind os u.process fd ≡ Some d → (bit_and d.access 2 == 2) ≡ true → (register u.context 12 == 0) ≡ false
      → FitsStage (goes_on os reading) v.objects reading ReadBuffer
  write_fits d is behind allowed some = record {
    records = FitsRecords-with_service os os.boot (Some reading) fits.records;
    objects = FitsObjects-with_service os os.boot (Some reading) v.objects [] None fits.objects;
    event = trap_at (Some reading) ReadBuffer
        (and_from (writes os u) (is_recorded os u)
        (and_from (is_call u WRITE) (not (register u.context 12 == 0) && is_writable (description_behind os u.process fd))
        (and_from (u.cause == 8) (register u.context 17 == WRITE) is.call is.number)
        (and_from (not (register u.context 12 == 0)) (is_writable (description_behind os u.process fd)) (ap not some) (ap is_writable behind ∙ allowed))) fits.recorded);
    lists = record { next = λ keeps. refl; names = λ keeps. refl; bytes = λ keeps. refl; handles = refl; later = refl; numbers = refl };
    names = tt;
    kept = tt;
    made = tt;
  }

  abbrev written_from : Description → Served
  written_from d = write_from m who (description_seen v.objects.live d) (register u.context 11) (moved (register u.context 12))

  -- of some bytes or of none
  some_stand : (d : Description) → IsWrite → description_behind os u.process fd ≡ Some d → (bit_and d.access 2 == 2) ≡ true → (none : Bool) → (register u.context 12 == 0) ≡ none →
      Stands (cond none (result_of os u 0) (goes_on os reading)) v (leads_to (cond none (silently (finished m who 0)) (written_from d)))
  some_stand d is behind allowed true none = result_stands 0 (write_returns is)
  some_stand d is behind allowed false some =
      let there : description_of m who.process fd ≡ Some (description_seen v.objects.live d) = described ∙ ap (option_map (description_seen v.objects.live)) behind in
      record {
        fits = write_fits d is behind allowed some;
        means = ap leads_to (served_write m who (u.cause, u.value) (description_seen v.objects.live d) is.call is.number there allowed some);
      }

  -- to a descriptor that is open for writing, or not
  open_stands : (d : Description) → IsWrite → description_behind os u.process fd ≡ Some d → (allowed : Bool) → (bit_and d.access 2 == 2) ≡ allowed →
      Stands (cond allowed (cond (register u.context 12 == 0) (result_of os u 0) (goes_on os reading)) (result_of os u (error EBADF))) v
      (leads_to (write_to m who (cond allowed (Some (description_seen v.objects.live d)) None)))
  open_stands d is behind true allowed = some_stand d is behind allowed (register u.context 12 == 0) refl
  open_stands d is behind false refused = result_stands (error EBADF) (write_returns is)

  behind_stands : (x : Option Description) → IsWrite → description_behind os u.process fd ≡ x → Stands (write_entered os u x) v (leads_to (write_to m who (writable (option_map (description_seen v.objects.live) x))))
  behind_stands None is behind = result_stands (error EBADF) (write_returns is)
  behind_stands (Some d) is behind = open_stands d is behind (bit_and d.access 2 == 2) refl

  write_stands : IsWrite → Stands (write_entered os u (description_behind os u.process fd)) v (leads_to (write m who))
  write_stands is = subst (λ x. Stands (write_entered os u (description_behind os u.process fd)) v (leads_to (write_to m who (writable x)))) (sym described)
      (behind_stands (description_behind os u.process fd) is refl)

  -- a system call, by its number
  abbrev number : ℕ
  number = register u.context 17

  -- a result that is known at once
  parent_is : parent_of (process_with u.process os.processes) ≡ parent_in (process_at m who.process)
  parent_is =
      let behind = ap (λ h. process_with h os.processes) home.process ∙ home.links.behind in
      ap parent_of behind
      ∙ sym (ap (λ p. parent_in (process_at m p)) (ap pid_of behind)
      ∙ ap parent_in (process_at-found os v u.process home.links.process fits.records behind)
      ∙ seen_parent home.links.process.code)
    where
      seen_parent : (code : Option ℕ) → parent_in (Some (process_if home.links.process (memory_of_object (object_at v.objects home.links.process.handle)) code)) ≡ home.links.process.parent
      seen_parent None = refl
      seen_parent (Some code) = refl

  known_is : known_result os u number ≡ calls.known_result m who number
  known_is = ap (λ parent. if number == SCHED_YIELD then 0 else (if number == GETPID then who.process else (if number == GETPPID then parent else (if number == GETTID then who.thread else error ENOSYS)))) parent_is

  -- a call on pages: a result that its arguments decide, or a stage
  abbrev paged : Stage → ℕ → ℕ → Cont
  paged stage page count = record (entered_with u) { stage = stage; numbers = page ∷ count ∷ [] }

  pages_stand : (stage : Stage) (page count : ℕ) (goes : Mono) (known x : Option ℕ) → known ≡ x → returns os u ≡ true
      → (known ≡ None → Stands (goes_on os (paged stage page count)) v (leads_to (silently goes)))
      → Stands (on_pages os u x stage page count) v (leads_to (silently (unless_known m who x goes)))
  pages_stand stage page count goes known None is next rest = rest is
  pages_stand stage page count goes known (Some result) is next rest = result_stands result next

  abbrev IsCall : ℕ → Type 0
  IsCall n = ((u.cause == 8) ≡ true) × ((register u.context 17 == n) ≡ true)

  undecided_comes : (n : ℕ) (known : Option ℕ) → IsCall n → known ≡ None → is_undecided os u n known ≡ true
  undecided_comes n known is none =
      and_from (is_call u n) (not (is_some known) && is_recorded os u) (and_from (u.cause == 8) (register u.context 17 == n) is.0 is.1)
      (and_from (not (is_some known)) (is_recorded os u) (ap (λ x. not (is_some x)) none) fits.recorded)

  call_goes : (n : ℕ) → is_exit n ≡ false → IsCall n → returns os u ≡ true
  call_goes n other is = call_returns is.0 (ap is_exit (eqb-true (register u.context 17) n is.1) ∙ other)

  abbrev pages : ℕ
  pages = pages_for (register u.context 11)

  -- what a stage stands for that brk comes to, and another call
  abbrev grown_if : ℕ → ℕ → Bool → Meaning
  grown_if page count brk = leads_to (silently (if brk then grow_break m who page count else map_from m who page count))

  abbrev shrunk_if : ℕ → ℕ → Bool → Meaning
  shrunk_if page count brk = leads_to (silently (if brk then shrink_break m who page count else free_pages m who page count))

  no_brk : (n : ℕ) → (n == BRK) ≡ false → IsCall n → (number == BRK) ≡ false
  no_brk n other is = ap (λ k. k == BRK) (eqb-true number n is.1) ∙ other

  munmap_stands : IsCall MUNMAP → Stands (munmap_entered os u) v (leads_to (silently (munmap m who)))
  munmap_stands is =
      let known = munmap_known u.context in
      let page = register u.context 10 / 4096 in
      pages_stand FreePages page pages (free_pages m who page pages) known known refl (call_goes MUNMAP refl is) (λ none. record {
        fits = numbers_fit os v.objects (entered_with u) FreePages (page ∷ pages ∷ []) fits.records fits.objects
            (trap_at (Some (paged FreePages page pages)) FreePages (or_left _ (moves_break os u is_shrinking) (undecided_comes MUNMAP known is none))) refl refl refl refl (munmap_asks u.context none) tt;
        means = ap (shrunk_if page pages) (no_brk MUNMAP refl is);
      })

  mprotect_stands : IsCall MPROTECT → Stands (mprotect_entered os u) v (leads_to (silently (mprotect m who)))
  mprotect_stands is =
      let known = mprotect_known u.context in
      let page = register u.context 10 / 4096 in
      pages_stand ProtectPages page pages (protect_pages m who page pages) known known refl (call_goes MPROTECT refl is) (λ none. record {
        fits = numbers_fit os v.objects (entered_with u) ProtectPages (page ∷ pages ∷ []) fits.records fits.objects
            (trap_at (Some (paged ProtectPages page pages)) ProtectPages (undecided_comes MPROTECT known is none)) refl refl refl refl ((mprotect_asks u.context none).1) tt;
        means = refl;
      })

  mmap_kept : mmap_known u.context ≡ None → KeepsPages (paged AllocatePages FIRST_MAPPED pages)
  mmap_kept none =
      let asks = mmap_asks u.context none in
      let few = asks.2 in
      record { some = asks.1; few = few; above = omega arith; below = omega arith }

  mmap_stands : IsCall MMAP → Stands (mmap_entered os u) v (leads_to (silently (mmap m who)))
  mmap_stands is =
      let known = mmap_known u.context in
      pages_stand AllocatePages FIRST_MAPPED pages (map_from m who FIRST_MAPPED pages) known known refl (call_goes MMAP refl is) (λ none. record {
        fits = numbers_fit os v.objects (entered_with u) AllocatePages (FIRST_MAPPED ∷ pages ∷ []) fits.records fits.objects
            (trap_at (Some (paged AllocatePages FIRST_MAPPED pages)) AllocatePages (or_left _ (moves_break os u is_growth) (undecided_comes MMAP known is none))) refl refl refl refl
            (subst (KeepsMade (paged AllocatePages FIRST_MAPPED pages)) (sym (no_brk MMAP refl is)) (mmap_kept none)) tt;
        means = ap (grown_if FIRST_MAPPED pages) (no_brk MMAP refl is);
      })

  -- brk, by where the break goes
  settled : returns os u ≡ true → FitsTrap os v.objects u SetContext
  settled goes = record { up = up; first = fits.first; current = fits.current; home = fits.home; comes = goes }

  moving_comes : (so : BreakMove → Bool) → IsCall BRK → so (break_goes os u) ≡ true → moves_break os u so ≡ true
  moving_comes so is moves =
      and_from (is_call u BRK) (so (break_goes os u) && is_recorded os u) (and_from (u.cause == 8) (number == BRK) is.0 is.1)
      (and_from (so (break_goes os u)) (is_recorded os u) moves fits.recorded)

  goes_stand : (x : BreakMove) → IsCall BRK → break_goes os u ≡ x → Stands (brk_by os u x) v (leads_to (silently (calls.brk_by m who x)))
  goes_stand (Grows page count) is goes = record {
    fits = numbers_fit os v.objects (entered_with u) AllocatePages (page ∷ count ∷ []) fits.records fits.objects
        (trap_at (Some (paged AllocatePages page count)) AllocatePages (or_right (is_undecided os u MMAP (mmap_known u.context)) _ (moving_comes is_growth is (ap is_growth goes)))) refl refl refl refl
        (subst (KeepsMade (paged AllocatePages page count)) (sym is.1) (asked_some (process_with u.process os.processes) (register u.context 10) page count goes)) tt;
    means = ap (grown_if page count) is.1;
  }
  goes_stand (Shrinks page count) is goes = record {
    fits = numbers_fit os v.objects (entered_with u) FreePages (page ∷ count ∷ []) fits.records fits.objects
        (trap_at (Some (paged FreePages page count)) FreePages (or_right (is_undecided os u MUNMAP (munmap_known u.context)) _ (moving_comes is_shrinking is (ap is_shrinking goes)))) refl refl refl refl
        (freed_some (process_with u.process os.processes) (register u.context 10) page count goes) tt;
    means = ap (shrunk_if page count) is.1;
  }
  goes_stand Within is goes = moved_stands os v (entered_with u) fits.records fits.objects (settled (call_goes BRK refl is))
  goes_stand Stays is goes = given_stands os v (entered_with u) fits.records fits.objects (settled (call_goes BRK refl is))

  asked_is : calls.break_asked (process_at m who.process) (register u.context 10) ≡ break_goes os u
  asked_is =
      let behind = ap (λ h. process_with h os.processes) home.process ∙ home.links.behind in
      ap (λ p. calls.break_asked (process_at m p) (register u.context 10)) (ap pid_of behind)
      ∙ ap (λ x. calls.break_asked x (register u.context 10)) (process_at-found os v u.process home.links.process fits.records behind)
      ∙ asked_seen home.links.process.code
      ∙ sym (ap (λ x. break_asked x (register u.context 10)) behind)
    where
      asked_seen : (code : Option ℕ) → calls.break_asked (Some (process_if home.links.process (memory_of_object (object_at v.objects home.links.process.handle)) code)) (register u.context 10)
          ≡ break_asked (Some home.links.process) (register u.context 10)
      asked_seen None = refl
      asked_seen (Some code) = refl

  brk_stands : IsCall BRK → Stands (brk_entered os u) v (leads_to (silently (brk m who)))
  brk_stands is = subst (λ x. Stands (brk_entered os u) v (leads_to (silently (calls.brk_by m who x)))) (sym asked_is) (goes_stand (break_goes os u) is refl)

  abbrev other_memory : LibOs
  other_memory =
      if number == MUNMAP then munmap_entered os u
      else (if number == MMAP then mmap_entered os u else (if number == MPROTECT then mprotect_entered os u else result_of os u (known_result os u number)))

  abbrev other_paging : Mono
  other_paging =
      if number == MUNMAP then munmap m who
      else (if number == MMAP then mmap m who else (if number == MPROTECT then mprotect m who else finished m who (calls.known_result m who number)))

  memory_stands : (u.cause == 8) ≡ true → is_exit number ≡ false → (unmaps maps protects : Bool) → (number == MUNMAP) ≡ unmaps → (number == MMAP) ≡ maps → (number == MPROTECT) ≡ protects →
      Stands (cond unmaps (munmap_entered os u) (cond maps (mmap_entered os u) (cond protects (mprotect_entered os u) (result_of os u (known_result os u number))))) v
      (leads_to (silently (cond unmaps (munmap m who) (cond maps (mmap m who) (cond protects (mprotect m who) (finished m who (calls.known_result m who number)))))))
  memory_stands call other true maps protects is m p = munmap_stands (call, is)
  memory_stands call other false true protects u is p = mmap_stands (call, is)
  memory_stands call other false false true u m is = mprotect_stands (call, is)
  memory_stands call other false false false x y z =
      subst (λ result. Stands (result_of os u (known_result os u number)) v (leads_to (silently (finished m who result)))) known_is
      (result_stands (known_result os u number) (call_returns call other))

  pages_stands : (u.cause == 8) ≡ true → is_exit number ≡ false → (breaks : Bool) → (number == BRK) ≡ breaks →
      Stands (cond breaks (brk_entered os u) other_memory) v (leads_to (silently (cond breaks (brk m who) other_paging)))
  pages_stands call other true is = brk_stands (call, is)
  pages_stands call other false _ = memory_stands call other (number == MUNMAP) (number == MMAP) (number == MPROTECT) refl refl refl

  -- a call on descriptors
  abbrev opened : Option Description
  opened = description_behind os u.process fd

  descriptor_stands : (u.cause == 8) ≡ true → is_exit number ≡ false → (closes dups replaces : Bool) → (number == CLOSE) ≡ closes → (number == DUP) ≡ dups → (number == DUP3) ≡ replaces →
      Stands (cond closes (close_entered os u opened) (cond dups (dup_entered os u opened) (cond replaces (dup3_unless os u (dup3_known u.context)) (memory_entered os u number)))) v
      (leads_to (silently (cond closes (close m who) (cond dups (dup m who) (cond replaces (dup3 m who) (memory_call m who number))))))
  descriptor_stands call other true dups replaces is d r =
      close_stands os v u up fits (and_from _ _ (or_left _ _ (and_from _ _ call is)) fits.recorded)
      (ap (λ k. (u.cause == 8) && k == DUP3) (eqb-true number CLOSE is) ∙ ap (λ b. b && false) call)
  descriptor_stands call other false true replaces c is r = dup_stands os v u up fits (call_returns call other)
  descriptor_stands call other false false true c d is =
      let it : is_call u DUP3 ≡ true = and_from _ _ call is in
      dup3_stands os v u up fits (and_from _ _ (or_right (is_call u CLOSE) (is_call u DUP3) it) fits.recorded) it
  descriptor_stands call other false false false c d r = pages_stands call other (number == BRK) refl

  -- a call on an open file or the console
  file_stands : (u.cause == 8) ≡ true → is_exit number ≡ false → (reads seeks stats cuts : Bool) → (number == READ) ≡ reads → (number == LSEEK) ≡ seeks → (number == FSTAT) ≡ stats → (number == FTRUNCATE) ≡ cuts →
      Stands (cond reads (read_entered os u opened) (cond seeks (lseek_entered os u opened) (cond stats (fstat_entered os u opened) (cond cuts (ftruncate_entered os u opened) (descriptor_entered os u number))))) v
      (leads_to (silently (cond reads (read m who) (cond seeks (lseek m who) (cond stats (fstat m who) (cond cuts (ftruncate m who) (descriptor_call m who number)))))))
  file_stands call other true seeks stats cuts is l s t = read_stands os v u up fits call is
  file_stands call other false true stats cuts r is s t = lseek_stands os v u up fits call is
  file_stands call other false false true cuts r l is t = fstat_stands os v u up fits call is
  file_stands call other false false false true r l s is = ftruncate_stands os v u up fits call is
  file_stands call other false false false false r l s t = descriptor_stands call other (number == CLOSE) (number == DUP) (number == DUP3) refl refl refl

  -- an exit of one of several threads ends the thread, and any other the process
  exit_by : (u.cause == 8) ≡ true → is_exit number ≡ true → (alone : Bool) → (number == EXIT && has_other_thread os u) ≡ alone →
      Stands (cond alone (ends_thread os u) (ends_process os u (register u.context 10 % 256))) v
      (leads_to (silently (cond alone (calls.without_thread m who.thread) (ended m who.process (register u.context 10 % 256)))))
  exit_by call is true alone = thread_ends os v u up fits
      (and_from (u.cause == 8) (number == EXIT) call (and_parts (number == EXIT) (has_other_thread os u) alone).0)
  exit_by call is false whole = ends (register u.context 10 % 256) (omega arith)
      (or_right (not (u.cause == 8)) (is_exit_call u) (and_from (u.cause == 8) (is_exit number) call is))

  exit_stands : (u.cause == 8) ≡ true → is_exit number ≡ true → Stands (exit_entered os u number) v (leads_to (silently (exit m who number)))
  exit_stands call is =
      subst (λ other. Stands (exit_entered os u number) v
      (leads_to (silently (cond (number == EXIT && other) (calls.without_thread m who.thread) (ended m who.process (register u.context 10 % 256))))))
      (sym (has_other_thread-base os v u fits.records)) (exit_by call is (number == EXIT && has_other_thread os u) refl)

  other_stands : (u.cause == 8) ≡ true → (exits : Bool) → is_exit number ≡ exits →
      Stands (cond exits (exit_entered os u number) (file_entered os u number)) v
      (leads_to (cond exits (silently (exit m who number)) (silently (file_call m who number))))
  other_stands call true is = exit_stands call is
  other_stands call false other = file_stands call other (number == READ) (number == LSEEK) (number == FSTAT) (number == FTRUNCATE) refl refl refl refl

  abbrev other_entered : LibOs
  other_entered = if is_exit number then exit_entered os u number else file_entered os u number

  abbrev other_call : Served
  other_call = if is_exit number then silently (exit m who number) else silently (file_call m who number)

  call_stands : (u.cause == 8) ≡ true → (writes : Bool) → (number == WRITE) ≡ writes →
      Stands (cond writes (write_entered os u (description_behind os u.process fd)) other_entered) v (leads_to (cond writes (write m who) other_call))
  call_stands call true is = write_stands (record { call = call; number = is })
  call_stands call false other = other_stands call (is_exit number) refl

  cause_stands : (calls : Bool) → (u.cause == 8) ≡ calls →
      Stands (cond calls (call_entered os u number) (ends_process os u (fault_code u.cause))) v
      (leads_to (cond calls (system_call m who number) (silently (ended m who.process (fault_code u.cause)))))
  cause_stands true is = call_stands is (number == WRITE) refl
  cause_stands false fault = ends (fault_code u.cause) (fault_byte u.cause) (or_left (not (u.cause == 8)) (is_exit_call u) (ap not fault))

  pub entered_stands-by : Stands (entered os u) v (leads_to (served m who (u.cause, u.value)))
  entered_stands-by = cause_stands (u.cause == 8) refl

-- ---- the trap's process ends

some_mapped : {A B : Type 0} (f : A → B) (x : Option A) → is_some x ≡ true → is_some (option_map f x) ≡ true
some_mapped f None some = some
some_mapped f (Some a) some = refl

module _ (os : LibOs) (v : Visible) (u : Upcall) (up : os.boot ≡ Up) (fits : FitsTrapped os v.objects u) (code : ℕ) (byte : code < 256) where
  abbrev home_of : Trapped os v.objects u
  home_of = trapped os v.objects u [] None fits.records fits.objects fits.home fits.recorded

  abbrev p : ℕ
  p = pid_with os u.process

  abbrev left : LibOs
  left = without_process os p code

  abbrev ending : Cont
  ending = record (entered_with u) { numbers = code ∷ [] }

  ended_code : is_ended_with (process_with u.process left.processes) code ≡ true
  ended_code =
      let process = home_of.links.process in
      ap (λ x. is_ended_with x code) (process_with-ended p code u.process os.processes ∙ ap (option_map (note_ended p code)) (process_found os v.objects u home_of code fits.records fits.objects))
      ∙ ap (λ (n : ProcessNote). is_at code n.code) (cond-true (process.pid == p) (record process { code = Some code; descriptors = [] }) process
      (eq-eqb process.pid p (sym (pid_is os v.objects u home_of code fits.records fits.objects))))
      ∙ eq-eqb code code refl

  ending_trap : (not (u.cause == 8) || is_exit_call u) ≡ true → FitsTrap left v.objects u CloseHandles
  ending_trap comes = record {
    up = up;
    first = ap is_some (process_named-ended p code 1 os.processes) ∙ some_mapped (note_ended p code) (process_named 1 os.processes) fits.first;
    current = fits.current;
    home = fits.home;
    comes = comes;
  }

  process_ends : (not (u.cause == 8) || is_exit_call u) ≡ true → Stands (ends_process os u code) v (leads_to (silently (ended (base os v) p code)))
  process_ends comes = record {
    fits = closing_fits left v.objects ending (FitsRecords-without_process os p code fits.records) (ending_trap comes)
        (record { code = code; kept = refl; byte = byte; ended = ended_code }) (handles_of os p)
        (FitsObjects-without_process os v.objects u home_of code fits.records fits.objects);
    means = closing_means left v ending (handles_of os p)
        ∙ ap (λ m. settles (Runs m)) (base-without_process os v fits.records p
        (λ q. omega (arith, times_recorded-most os v.objects [] None fits.objects q, times_named-recorded q os)) code home_of.links.process
        (process_there os v.objects u home_of code fits.records fits.objects));
  }

-- ---- the whole

-- A library OS that enters a trap stands for the machine that has served it.
pub entered_stands : (os : LibOs) (v : Visible) (u : Upcall) → os.boot ≡ Up → FitsTrapped os v.objects u
    → Stands (entered os u) v (leads_to (served (base os v) (caller_of os u) (u.cause, u.value)))
entered_stands os v u up fits = entered_stands-by os v u up fits (λ code byte comes. process_ends os v u up fits code byte comes)

-- A trap makes the library OS stand for the machine's next turn.
pub entered_turn : (os : LibOs) (u : Upcall) → EntersTurn os u (entered os u)
entered_turn os u = record {
  enters = λ v o up fits sound is.
      let to : TurnsTo os v (Exception u) o = subst (λ (x : Turned × Objects). TurnsTo os v x.0 x.1) is (turns os v fits sound) in
      let stands = entered_stands os (with_visible v o) u up to.0 in
      (stands.fits, stands.means ∙ ap leads_to (sym to.2));
}
