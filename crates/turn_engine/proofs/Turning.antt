-- A turn of the machine over a host.
use Rattle.std.proofs.Common.{◌≡◌, ◌≢◌, nat_lt, ℕ, List, [], ◌%◌, ◌^◌, ◌==◌, ◌&&◌, Bool, bit_and, if◌then◌else◌, true, false, append-nil, refl, sym, ap, subst, ◌∙◌}
use Rattle.std.specs.FinMap.{empty}
use Rattle.std.specs.declared.option.Option.{Option}
use Rattle.std.specs.declared.option.Option.TheVariants.{None, Some}
use Rattle.abi_calls.specs.declared.threads.Turned.{Turned}
use Rattle.abi_calls.specs.declared.threads.Turned.TheVariants.{Ran, Idle, Stuck, Exception}
use Rattle.abi_calls.specs.declared.threads.Upcall.{Upcall}
use Rattle.abi_calls.specs.declared.host.Crossing.{Crossing}
use Rattle.turn_sched.specs.Clock.{next_position}
use Rattle.abi_calls.specs.Objects.{Objects}
use Rattle.abi_calls.specs.World.{Told}
use Rattle.abi_calls.specs.Sound.{IsSound}
use Rattle.abi_calls.specs.Turn.{world_turn}
use Rattle.abi_calls.proofs.Sounds.{IsSound-with_due_ready}
use Rattle.abi_calls.proofs.TurnFacts.{world_turn-moves}
use Rattle.mono_model.specs.Machine.{Mono, register}
use Rattle.mono_model.specs.Readable.{Readable}
use Rattle.mono_model.specs.Descriptors.{DESCRIPTORS}
use Rattle.mono_model.specs.Written.{nothing, and_then}
use Rattle.mono_model.specs.declared.breaks.BreakMove.{BreakMove}
use Rattle.mono_model.specs.declared.breaks.BreakMove.TheVariants.{Grows, Shrinks, Within, Stays}
use Rattle.mono_model.specs.Calls.{Served, WRITE, CLOSE, DUP, DUP3, dup3_known, BRK, MUNMAP, MMAP, MPROTECT, EBADF, EINVAL, ENOSYS, error, munmap_known, mmap_known, mprotect_known, is_exit, EXIT}
use Rattle.mono_model.specs.SystemCalls.{fault_code}
use Rattle.mono_model.specs.FileCalls.{READ, LSEEK, FSTAT, FTRUNCATE, ESPIPE, sought}
use Rattle.mono_model.specs.Turns.{is_stuck, turn_of}
use Rattle.mono_model.specs.Starting.{Runs}
use Rattle.libos_state.specs.declared.cont.Stage.{Stage}
use Rattle.libos_state.specs.declared.cont.Stage.TheVariants.{FileLength, SetFileLength, AllocatePages, FreePages, ProtectPages}
use Rattle.libos_state.specs.declared.state.LibOs.{LibOs}
use Rattle.libos_state.specs.declared.notes.Description.{Description}
use Rattle.libos_state.specs.declared.state.Boot.{Boot}
use Rattle.libos_state.specs.declared.state.Boot.TheVariants.{Up}
use Rattle.libos_state.specs.Records.{description_behind, is_file, pid_with, process_with}
use Rattle.libos_state.specs.Descriptors.{with_descriptor, without_descriptor}
use Rattle.libos_state.specs.Answered.{goes_on}
use Rattle.libos_state.specs.Breaks.{break_goes}
use Rattle.libos_state.specs.Entered.{entered, call_entered, file_entered, read_entered, write_entered, lseek_entered, seek_by, seek_to, fstat_entered, ftruncate_entered, stage_of, on_pages, munmap_entered, mmap_entered, mprotect_entered, brk_by, brk_entered, memory_entered, ends_process, result_of, known_result, exit_entered, has_other_thread, ends_thread, entered_with, service_with_stream, is_last, close_entered, dup_to, dup_entered, dup3_over, dup3_open, dup3_unless, descriptor_entered, least_free, descriptors_in}
use Rattle.libos_state.specs.Fits.{Fits, FitsUp, FitsBoot, FitsCont}
use Rattle.libos_state.specs.Laws.{EntersTurn}
use Rattle.libos_state.specs.Meaning.{Meaning, meant, meant_settled, leads_to}
use Rattle.libos_state.specs.Turned as libos
use Rattle.libos_state.proofs.Turning.{turns}
use Rattle.turn_engine.specs.Inside.{WhereReadable, IsWritten}
use Rattle.turn_engine.specs.Moment.{Moment, moment, seen_at, machine_at, meaning_at}
use Rattle.turn_engine.specs.Serves.{Carries, Serves, IsUp, IsTurnOf, MakesTurn, StaysStuck}
use Rattle.turn_engine.specs.Halts.{IsGivenUp, Halts, HaltsTurn}
use Rattle.turn_engine.proofs.Telling.{IsWritten-nothing, where-same, where-weaker}
use Rattle.turn_engine.specs.History.{History}
use Rattle.turn_engine.proofs.Halting.{IsGivenUp-same}
use Rattle.turn_engine.proofs.Histories.{history_none}

-- What the world's turn is beside the machine's.
turned_beside : (a : Moment) (x : Readable) (t : Turned) (o : Objects) → IsUp a.os a.objects → IsSound a.objects → world_turn a.objects ≡ (t, o) → libos.TurnsTo a.os (seen_at a x) t o
turned_beside a x t o up sound is = subst (λ (r : Turned × Objects). libos.TurnsTo a.os (seen_at a x) r.0 r.1) is (turns a.os (seen_at a x) up.fits sound)

-- the turns counted
turns_counted : (a : Moment) (t : Turned) (o : Objects) → IsSound a.objects → t ≢ Stuck → world_turn a.objects ≡ (t, o) → o.positions.turns ≡ next_position a.objects.positions.turns
turns_counted a Ran o sound goes is = ap (λ p. p.turns) (world_turn-moves a.objects Ran o (IsSound-with_due_ready a.objects sound) is).positions
turns_counted a Idle o sound goes is = ap (λ p. p.turns) (world_turn-moves a.objects Idle o (IsSound-with_due_ready a.objects sound) is).positions
turns_counted a Stuck o sound goes is = absurd (goes refl)
turns_counted a (Exception u) o sound goes is = ap (λ p. p.turns) (world_turn-moves a.objects (Exception u) o (IsSound-with_due_ready a.objects sound) is).positions

-- ---- a turn without a trap

-- No files, and no input.
pub no_files : Readable
no_files = record { files = empty; input = [] }

module _ (a : Moment) (o : Objects) (t : Told) (journal : Option (List Crossing)) (answered : ℕ) (up : IsUp a.os a.objects) (sound : IsSound a.objects) (told : t ≡ a.told) where
  abbrev after : Moment
  after = moment a.os o t journal answered

  is_turn : (x : Readable) → (is_stuck (machine_at a x) ≡ false) → (turn_of (machine_at a x) ≡ (machine_at after x, nothing)) → IsTurnOf a after x x
  is_turn x goes is = record {
    goes = goes;
    told = subst (λ u. IsWritten a.told u (turn_of (machine_at a x)).1) (sym told)
        (subst (λ (s : Served). IsWritten a.told a.told s.1) (sym is) (IsWritten-nothing a.told));
    same = sym (ap (λ (s : Served). s.0) is);
  }

  makes : (turned : Turned) → turned ≢ Stuck → world_turn a.objects ≡ (turned, o) → FitsUp a.os o
      → ((x : Readable) → (is_stuck (machine_at a x) ≡ false) × (turn_of (machine_at a x) ≡ (machine_at after x, nothing))) → MakesTurn a after
  makes turned goes is fits beside = record {
    up = record { up = up.up; settled = up.settled; fits = fits };
    turns = turns_counted a turned o sound goes is;
    means = subst (λ u. WhereReadable a.told u (IsTurnOf a after)) (sym told) (where-same a.told (IsTurnOf a after) (λ x. is_turn x (beside x).0 (beside x).1));
  }

  pub MakesTurn-ran : world_turn a.objects ≡ (Ran, o) → MakesTurn a after
  MakesTurn-ran is = makes Ran (λ e. cc) is (turned_beside a no_files Ran o up sound is).0 (λ y. let b = turned_beside a y Ran o up sound is in (b.1, b.2))

  pub MakesTurn-idle : world_turn a.objects ≡ (Idle, o) → MakesTurn a after
  MakesTurn-idle is = makes Idle (λ e. cc) is (turned_beside a no_files Idle o up sound is).0 (λ y. let b = turned_beside a y Idle o up sound is in (b.1, b.2))

  -- stuck: nothing changes
  stuck_same : journal ≡ a.journal → answered ≡ a.answered → world_turn a.objects ≡ (Stuck, o) → after ≡ a
  stuck_same kept counted is =
      let same : o ≡ a.objects = (turned_beside a no_files Stuck o up sound is).1 in
      λ i. moment a.os (same i) (told i) (kept i) (counted i)

  pub StaysStuck-stuck : journal ≡ a.journal → answered ≡ a.answered → world_turn a.objects ≡ (Stuck, o) → StaysStuck a after
  StaysStuck-stuck kept counted is = record {
    same = stuck_same kept counted is;
    means = subst (λ u. WhereReadable a.told u (λ y z. is_stuck (machine_at a y) ≡ true)) (sym told)
        (where-same a.told (λ y z. is_stuck (machine_at a y) ≡ true) (λ y. (turned_beside a y Stuck o up sound is).0));
  }

  pub history_stuck : journal ≡ a.journal → answered ≡ a.answered → world_turn a.objects ≡ (Stuck, o) → History 0 a after
  history_stuck kept counted is = subst (History 0 a) (sym (stuck_same kept counted is)) (history_none a)

-- ---- a trap

settled_up : (os : LibOs) (o : Objects) → os.boot ≡ Up → os.cont ≡ None → Fits os o → FitsUp os o
settled_up os o up settled fits =
    let boot : FitsBoot os o os.boot = subst (FitsCont os o) settled fits in
    subst (FitsBoot os o) up boot

-- at the end of a service it stands for its machine, and nothing more is written
pub meaning-settled : (a : Moment) (x : Readable) → a.os.boot ≡ Up → a.os.cont ≡ None → meaning_at a x ≡ (Runs (machine_at a x), nothing)
meaning-settled a x up settled = ap (meant a.os (seen_at a x)) settled ∙ ap (λ b. (meant_settled a.os (seen_at a x) b, nothing)) up

boot_if : (b : Bool) (x y : LibOs) (boot : Boot) → x.boot ≡ boot → y.boot ≡ boot → (if b then x else y).boot ≡ boot
boot_if true x y boot p q = p
boot_if false x y boot p q = q

entered-boot-write : (os : LibOs) (u : Upcall) (d : Option Description) → (write_entered os u d).boot ≡ os.boot
entered-boot-write os u None = refl
entered-boot-write os u (Some d) =
    boot_if (bit_and d.access 2 == 2) _ (result_of os u (error EBADF)) os.boot
    (boot_if (register u.context 12 == 0) (result_of os u 0) _ os.boot refl refl) refl

entered-boot-read : (os : LibOs) (u : Upcall) (d : Option Description) → (read_entered os u d).boot ≡ os.boot
entered-boot-read os u None = refl
entered-boot-read os u (Some d) =
    boot_if (bit_and d.access 1 == 1) _ (result_of os u (error EBADF)) os.boot
    (boot_if (register u.context 12 == 0) (result_of os u 0) _ os.boot refl refl) refl

entered-boot-seek_to : (os : LibOs) (u : Upcall) (id : ℕ) (at : Option ℕ) → (seek_to os u id at).boot ≡ os.boot
entered-boot-seek_to os u id None = refl
entered-boot-seek_to os u id (Some at) = refl

entered-boot-seek : (os : LibOs) (u : Upcall) (d : Description) (whence : ℕ) → (seek_by os u d whence).boot ≡ os.boot
entered-boot-seek os u d whence =
    boot_if (nat_lt 2 whence) (result_of os u (error EINVAL)) _ os.boot refl
    (boot_if (whence == 2) (stage_of os u FileLength) _ os.boot refl
    (entered-boot-seek_to os u d.id (sought (if whence == 0 then 0 else d.position) (register u.context 11))))

entered-boot-lseek : (os : LibOs) (u : Upcall) (d : Option Description) → (lseek_entered os u d).boot ≡ os.boot
entered-boot-lseek os u None = refl
entered-boot-lseek os u (Some d) =
    boot_if (is_file d.kind) (seek_by os u d (register u.context 12)) (result_of os u (error ESPIPE)) os.boot (entered-boot-seek os u d (register u.context 12)) refl

entered-boot-fstat : (os : LibOs) (u : Upcall) (d : Option Description) → (fstat_entered os u d).boot ≡ os.boot
entered-boot-fstat os u None = refl
entered-boot-fstat os u (Some d) = boot_if (is_file d.kind) (stage_of os u FileLength) _ os.boot refl refl

entered-boot-ftruncate : (os : LibOs) (u : Upcall) (d : Option Description) → (ftruncate_entered os u d).boot ≡ os.boot
entered-boot-ftruncate os u None = refl
entered-boot-ftruncate os u (Some d) =
    boot_if (is_file d.kind && (bit_and d.access 2 == 2 && nat_lt (register u.context 11) (2 ^ 63)))
    (stage_of os u SetFileLength) (result_of os u (error EINVAL)) os.boot refl refl

entered-boot-pages : (os : LibOs) (u : Upcall) (known : Option ℕ) (stage : Stage) (page count : ℕ) → (on_pages os u known stage page count).boot ≡ os.boot
entered-boot-pages os u None stage page count = refl
entered-boot-pages os u (Some result) stage page count = refl

entered-boot-brk : (os : LibOs) (u : Upcall) (x : BreakMove) → (brk_by os u x).boot ≡ os.boot
entered-boot-brk os u (Grows page count) = refl
entered-boot-brk os u (Shrinks page count) = refl
entered-boot-brk os u Within = refl
entered-boot-brk os u Stays = refl

entered-boot-memory : (os : LibOs) (u : Upcall) (number : ℕ) → (memory_entered os u number).boot ≡ os.boot
entered-boot-memory os u number =
    boot_if (number == BRK) (brk_entered os u) _ os.boot (entered-boot-brk os u (break_goes os u))
    (boot_if (number == MUNMAP) (munmap_entered os u) _ os.boot (entered-boot-pages os u (munmap_known u.context) FreePages _ _)
    (boot_if (number == MMAP) (mmap_entered os u) _ os.boot (entered-boot-pages os u (mmap_known u.context) AllocatePages _ _)
    (boot_if (number == MPROTECT) (mprotect_entered os u) (result_of os u (known_result os u number)) os.boot (entered-boot-pages os u (mprotect_known u.context) ProtectPages _ _) refl)))

entered-boot-exit : (os : LibOs) (u : Upcall) (number : ℕ) → (exit_entered os u number).boot ≡ os.boot
entered-boot-exit os u number =
    boot_if (number == EXIT && has_other_thread os u) (ends_thread os u) (ends_process os u (register u.context 10 % 256)) os.boot refl refl

entered-boot-close : (os : LibOs) (u : Upcall) (d : Option Description) → (close_entered os u d).boot ≡ os.boot
entered-boot-close os u None = refl
entered-boot-close os u (Some d) =
    let p = pid_with os u.process in
    let fd = register u.context 10 in
    boot_if (is_last os p fd d.id) (goes_on os (service_with_stream (entered_with u) d.handle 0)) (result_of (without_descriptor os p fd) u 0) os.boot refl refl

entered-boot-dup_to : (os : LibOs) (u : Upcall) (id : ℕ) (fd : Option ℕ) → (dup_to os u id fd).boot ≡ os.boot
entered-boot-dup_to os u id None = refl
entered-boot-dup_to os u id (Some fd) = refl

entered-boot-dup : (os : LibOs) (u : Upcall) (d : Option Description) → (dup_entered os u d).boot ≡ os.boot
entered-boot-dup os u None = refl
entered-boot-dup os u (Some d) = entered-boot-dup_to os u d.id (least_free (descriptors_in (process_with u.process os.processes)))

entered-boot-over : (os : LibOs) (u : Upcall) (new id : ℕ) (d : Option Description) → (dup3_over os u new id d).boot ≡ os.boot
entered-boot-over os u new id None = refl
entered-boot-over os u new id (Some d) =
    let p = pid_with os u.process in
    boot_if (is_last os p new d.id) (goes_on os (service_with_stream (entered_with u) d.handle new)) (result_of (with_descriptor os p new id) u new) os.boot refl refl

entered-boot-replaces : (os : LibOs) (u : Upcall) (new : ℕ) (d : Option Description) → (dup3_open os u new d).boot ≡ os.boot
entered-boot-replaces os u new None = refl
entered-boot-replaces os u new (Some d) =
    boot_if (nat_lt new DESCRIPTORS) (dup3_over os u new d.id (description_behind os u.process new)) (result_of os u (error EBADF)) os.boot
    (entered-boot-over os u new d.id (description_behind os u.process new)) refl

entered-boot-dup3 : (os : LibOs) (u : Upcall) (known : Option ℕ) → (dup3_unless os u known).boot ≡ os.boot
entered-boot-dup3 os u (Some result) = refl
entered-boot-dup3 os u None = entered-boot-replaces os u (register u.context 11) (description_behind os u.process (register u.context 10))

entered-boot-descriptors : (os : LibOs) (u : Upcall) (number : ℕ) → (descriptor_entered os u number).boot ≡ os.boot
entered-boot-descriptors os u number =
    let d = description_behind os u.process (register u.context 10) in
    boot_if (number == CLOSE) (close_entered os u d) _ os.boot (entered-boot-close os u d)
    (boot_if (number == DUP) (dup_entered os u d) _ os.boot (entered-boot-dup os u d)
    (boot_if (number == DUP3) (dup3_unless os u (dup3_known u.context)) (memory_entered os u number) os.boot (entered-boot-dup3 os u (dup3_known u.context)) (entered-boot-memory os u number)))

entered-boot-files : (os : LibOs) (u : Upcall) (number : ℕ) → (file_entered os u number).boot ≡ os.boot
entered-boot-files os u number =
    let d = description_behind os u.process (register u.context 10) in
    boot_if (number == READ) (read_entered os u d) _ os.boot (entered-boot-read os u d)
    (boot_if (number == LSEEK) (lseek_entered os u d) _ os.boot (entered-boot-lseek os u d)
    (boot_if (number == FSTAT) (fstat_entered os u d) _ os.boot (entered-boot-fstat os u d)
    (boot_if (number == FTRUNCATE) (ftruncate_entered os u d) (descriptor_entered os u number) os.boot (entered-boot-ftruncate os u d) (entered-boot-descriptors os u number))))

-- a library OS that begins to serve a trap is as far as before
pub entered-boot : (os : LibOs) (u : Upcall) → (entered os u).boot ≡ os.boot
entered-boot os u =
    boot_if (u.cause == 8) (call_entered os u (register u.context 17)) (ends_process os u (fault_code u.cause)) os.boot
    (boot_if (register u.context 17 == WRITE) (write_entered os u (description_behind os u.process (register u.context 10))) _ os.boot
    (entered-boot-write os u (description_behind os u.process (register u.context 10)))
    (boot_if (is_exit (register u.context 17)) (exit_entered os u (register u.context 17)) (file_entered os u (register u.context 17)) os.boot (entered-boot-exit os u (register u.context 17)) (entered-boot-files os u (register u.context 17))))
    refl

same_runs : (m n : Mono) → Runs m ≡ Runs n → m ≡ n
same_runs m n e = cc

module _ (a s : Moment) (u : Upcall) (up : IsUp a.os a.objects) (sound : IsSound a.objects)
    (is : world_turn a.objects ≡ (Exception u, s.objects)) (told : s.told ≡ a.told) (enters : EntersTurn a.os u s.os) where
  -- the library OS that serves the trap stands for the machine's turn
  entered_at : (x : Readable) → Fits s.os s.objects × (meaning_at s x ≡ leads_to (turn_of (machine_at a x)))
  entered_at x = enters.enters (seen_at a x) s.objects up.up up.fits sound is

  pub Fits-entered : (x : Readable) → Fits s.os s.objects
  Fits-entered x = (entered_at x).0

  turn_is : (b : Moment) (x y : Readable) → b.os.boot ≡ Up → b.os.cont ≡ None → Carries s b x y → IsTurnOf a b x y
  turn_is b x y booted settled c =
      let served : leads_to (turn_of (machine_at a x)) ≡ (Runs (machine_at b y), and_then c.written nothing) =
      sym (entered_at x).1 ∙ c.same ∙ ap (λ (m : Meaning). (m.0, and_then c.written m.1)) (meaning-settled b y booted settled) in
      let written : (turn_of (machine_at a x)).1 ≡ c.written = ap (λ (m : Meaning). m.1) served
      ∙ (λ i. record { output = append-nil c.written.output i; errors = append-nil c.written.errors i }) in
      record {
        goes = (turned_beside a x (Exception u) s.objects up sound is).1;
        told = subst (λ v. IsWritten v b.told (turn_of (machine_at a x)).1) told (subst (λ w. IsWritten s.told b.told w) (sym written) c.told);
        same = sym (same_runs _ _ (ap (λ (m : Meaning). m.0) served));
      }

  -- the trap is served to its end
  pub MakesTurn-served : (b : Moment) → Serves s b → b.os.cont ≡ None → s.os.boot ≡ Up → MakesTurn a b
  MakesTurn-served b serves settled booted =
      let boot : b.os.boot ≡ Up = serves.up booted in
      record {
        up = record { up = boot; settled = settled; fits = settled_up b.os b.objects boot settled serves.fits };
        turns = serves.turns ∙ turns_counted a (Exception u) s.objects sound (λ e. cc) is;
        means = subst (λ v. WhereReadable v b.told (IsTurnOf a b)) told
            (where-weaker s.told b.told (Carries s b) (IsTurnOf a b) (λ x y. turn_is b x y boot settled) serves.means);
      }

  -- the service is given up
  pub HaltsTurn-served : (t : Told) → Halts s t → HaltsTurn a t
  HaltsTurn-served t halts = record {
    halts = subst (λ v. WhereReadable v t (λ x y. IsGivenUp v t (leads_to (turn_of (machine_at a x))) x y)) told
        (where-weaker s.told t (λ x y. IsGivenUp s.told t (meaning_at s x) x y) (λ x y. IsGivenUp s.told t (leads_to (turn_of (machine_at a x))) x y)
        (λ x y. subst (λ m. IsGivenUp s.told t m x y) (entered_at x).1) halts.halts);
  }

-- nothing was done of the service
pub HaltsTurn-same : (a : Moment) (t : Told) → t ≡ a.told → HaltsTurn a t
HaltsTurn-same a t told = record {
  halts = subst (λ v. WhereReadable a.told v (λ x y. IsGivenUp a.told v (leads_to (turn_of (machine_at a x))) x y)) (sym told)
      (where-same a.told (λ x y. IsGivenUp a.told a.told (leads_to (turn_of (machine_at a x))) x y) (λ x. IsGivenUp-same a.told (leads_to (turn_of (machine_at a x))) x));
}
