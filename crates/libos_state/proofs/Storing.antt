-- The stage at which a call's bytes go to its caller's memory: those of a read, whose file's position then moves over
-- them, or a status.
use Rattle.std.specs.Prelude.{◌≡◌, ℕ, ◌≤◌, ◌==◌, Bool, true, false, cond, ◌&&◌, ◌||◌, [], length, is_some}
use Rattle.std.specs.declared.option.Option.{Option}
use Rattle.std.specs.declared.option.Option.TheVariants.{None, Some}
use Rattle.std.proofs.Common.{refl, sym, ap, subst, ◌∙◌, arith, eqb-true}
use Rattle.std.proofs.lemmas.Bool.{le-ltb, and_parts}
use Rattle.guest_space.specs.Space.{Space, memory_of}
use Rattle.guest_space.specs.Access.{AccessFault, Missing, Forbidden, first_fault}
use Rattle.abi_calls.specs.declared.reply.Reply.{Reply}
use Rattle.abi_calls.specs.declared.reply.Reply.TheVariants.{Done, BadAddress, NoAccess, TooBig}
use Rattle.abi_calls.specs.declared.threads.Upcall.{Upcall}
use Rattle.abi_calls.specs.Objects.{Object, Objects, object_at, running}
use Rattle.abi_calls.specs.Memory.{with_pages, memory_write_row, unless_fault}
use Rattle.abi_calls.specs.Sound.{IsSound}
use Rattle.mono_model.specs.Machine.{Mono, register}
use Rattle.mono_model.specs.Starting.{Runs, filled_from}
use Rattle.mono_model.specs.Calls.{Caller, EFAULT, error, finished_with, moved, advanced, positioned, is_exit}
use Rattle.mono_model.specs.FileCalls as machine
use Rattle.mono_model.specs.FileCalls.{READ, FSTAT, described, after_store, stored_unless}
use Rattle.libos_state.specs.declared.cont.Cont.{Cont}
use Rattle.libos_state.specs.declared.cont.Stage.TheVariants.{SetContext, StoreBytes}
use Rattle.libos_state.specs.declared.notes.Description.{Description}
use Rattle.libos_state.specs.declared.notes.Kind.{Kind}
use Rattle.libos_state.specs.declared.notes.Kind.TheVariants.{ConIn, ConOut, ConErr, File}
use Rattle.libos_state.specs.declared.state.LibOs.{LibOs}
use Rattle.libos_state.specs.declared.step.Change.TheVariants.{Same, MovesPosition}
use Rattle.libos_state.specs.Records.{View, Visible, visible, with_visible, base, is_file, stream_seen, description_behind}
use Rattle.libos_state.specs.Descriptors.{with_position, moved_over}
use Rattle.libos_state.specs.Pending.{asked, upcall_in, argument, number}
use Rattle.libos_state.specs.Answered.{goes_on, with_change, service_with_result, store_change}
use Rattle.libos_state.specs.Meaning.{caller_of, caller_in, settles, meant_at}
use Rattle.libos_state.specs.Fits.{FitsRecords, FitsObjects, FitsStage, FitsEvent, FitsTrap, is_call, is_recorded, reads, stores, returns}
use Rattle.libos_state.proofs.Holds.{Holds}
use Rattle.libos_state.proofs.Rows.{Stands, by_row}
use Rattle.libos_state.proofs.Naming.{Trapped}
use Rattle.libos_state.proofs.Distinct.{some_of}
use Rattle.libos_state.proofs.ChangedMemory as changed
use Rattle.libos_state.proofs.ChangedMemory.{changed_stands}
use Rattle.libos_state.proofs.OpenStreams.{seen_there}
use Rattle.libos_state.proofs.Placing.{base-placed, moved-file, moved-console}
use Rattle.libos_state.proofs.Positions.{FitsRecords-with_position, FitsObjects-with_position}
use Rattle.libos_state.proofs.ReadCalls.{reads_of}
use Rattle.libos_state.proofs.Serving.{trap_of, on_trap, named_as-no_kinds, returns-call, FitsTrap-with_service, result_fits}
use Rattle.libos_state.proofs.Views.{AnswersAs, Answer, answer, on_objects}

-- ---- a call whose bytes are stored, by its trap

record Stores (os : LibOs) (u : Upcall) : Type 0 where
  call : (u.cause == 8) ≡ true
  stays : is_exit (register u.context 17) ≡ false
  description : Description
  behind : description_behind os u.process (register u.context 10) ≡ Some description

reading_stores : (os : LibOs) (u : Upcall) → reads os u ≡ true → Stores os u
reading_stores os u is =
    let read = reads_of os u is in
    record {
      call = read.call;
      stays = ap is_exit (eqb-true (register u.context 17) READ read.number);
      description = read.description;
      behind = read.behind;
    }

stores_of : (os : LibOs) (u : Upcall) → stores os u ≡ true → Stores os u
stores_of os u is =
    let named = is_some (description_behind os u.process (register u.context 10)) in
    elim (reads os u) as (λ b. reads os u ≡ b → (b || (is_call u FSTAT && named)) ≡ true → Stores os u) [
      | true ↦ λ read _. reading_stores os u read
      | false ↦ λ _ status.
          let parts = and_parts (is_call u FSTAT) named status in
          let call = and_parts (u.cause == 8) (register u.context 17 == FSTAT) parts.0 in
          let d = some_of (description_behind os u.process (register u.context 10)) parts.1 in
          record {
            call = call.0;
            stays = ap is_exit (eqb-true (register u.context 17) FSTAT call.1);
            description = d.0;
            behind = d.1;
          }
    ] refl is

few_stored : (status : Bool) (count : ℕ) → cond status 128 (moved count) ≤ 65536
few_stored true count = omega arith
few_stored false count = omega arith

-- ---- the stage

module _ (os : LibOs) (c : Cont) (w : View) (fits : FitsStage os w.objects c StoreBytes) where
  abbrev u : Upcall
  u = upcall_in c.event

  abbrev v : Visible
  v = visible w

  abbrev m : Mono
  m = base os v

  abbrev who : Caller
  who = caller_in os c

  abbrev address : ℕ
  address = number c 0

  abbrev result : ℕ
  result = number c 1

  abbrev size : ℕ
  size = length c.bytes

  named_none : FitsObjects os w.objects [] None
  named_none = subst (λ kept. FitsObjects os w.objects kept None) (named_as-no_kinds c.handles) fits.objects

  trap : FitsTrap os w.objects u StoreBytes
  trap = trap_of os w.objects c.event StoreBytes refl fits.event

  call : Stores os u
  call = stores_of os u (and_parts (stores os u) (is_recorded os u) trap.comes).0

  abbrev d : Description
  d = call.description

  abbrev object : Option Object
  object = object_at w.objects d.handle

  returns_to : returns os u ≡ true
  returns_to = returns-call os u call.call call.stays (and_parts (stores os u) (is_recorded os u) trap.comes).1

  trap_behind : FitsTrap os w.objects u SetContext
  trap_behind = record { up = trap.up; first = trap.first; current = trap.current; home = trap.home; comes = returns_to }

  abbrev home : Trapped os w.objects u
  home = changed.home os c w fits.records named_none trap_behind

  abbrev s : Space
  s = home.links.memory

  -- what the host answers
  abbrev fault : Option AccessFault
  fault = first_fault (memory_of s) 2 address size

  abbrev filled : Space
  filled = filled_from s address c.bytes

  abbrev after : Objects
  after = with_pages w.objects u.process filled

  row : memory_write_row w.objects u.process address c.bytes (running (object_at w.objects u.process)) ≡ unless_fault w.objects fault (Done, after)
  row =
      let few : size ≤ 65536 = omega (arith, fits.kept, few_stored (is_call u FSTAT) (register u.context 12)) in
      let short = le-ltb 65536 size few in
      ap (λ x. memory_write_row w.objects u.process address c.bytes (running x)) (changed.there os c w fits.records named_none trap_behind)
      ∙ ap (λ long. cond long (TooBig, w.objects) (unless_fault w.objects fault (Done, after))) short

  -- what the stage stands for
  meant : (x : Option AccessFault) → fault ≡ x → meant_at os v c StoreBytes ≡ settles (Runs (stored_unless m who address c.bytes result x))
  meant x is =
      ap (λ (t : Space). settles (Runs (stored_unless m who address c.bytes result (first_fault (memory_of t) 2 address size)))) (changed.memory_is os c w fits.records named_none trap_behind)
      ∙ ap (λ f. settles (Runs (stored_unless m who address c.bytes result f))) is

  meant_stored : fault ≡ None → meant_at os v c StoreBytes ≡ settles (Runs (finished_with (after_store m who size) who filled result))
  meant_stored is = meant None is
      ∙ ap (λ (t : Space). settles (Runs (finished_with (after_store m who size) who (filled_from t address c.bytes) result))) (changed.memory_is os c w fits.records named_none trap_behind)

  -- the records after the call, by the machine after it
  record Left (left : LibOs) (now : Mono) : Type 0 where
    records : FitsRecords left
    objects : FitsObjects left w.objects [] None
    trap : FitsTrap left w.objects u SetContext
    means : base left v ≡ now
    caller : caller_of left u ≡ who

  left_as_is : Left os m
  left_as_is = record { records = fits.records; objects = named_none; trap = trap_behind; means = refl; caller = refl }

  left_placed : (position : ℕ) → Left (with_position os d.id position) (positioned m who position)
  left_placed position = record {
    records = FitsRecords-with_position os d.id position fits.records;
    objects = FitsObjects-with_position os d.id position w.objects [] None named_none;
    trap = record { up = trap.up; first = trap.first; current = trap.current; home = trap.home; comes = returns_to };
    means = base-placed os v u [] None fits.records named_none home d call.behind position;
    caller = refl;
  }

  -- the position of a file moves, an end of the console has none
  moved_by : (k : Kind) → d.kind ≡ k → machine.moved_over m who size (described m who)
      ≡ cond (machine.is_file (stream_seen k object)) (positioned m who (advanced d.position size)) m
  moved_by k is = ap (machine.moved_over m who size) (seen_there os v u [] None fits.records named_none home d call.behind)
      ∙ ap (λ j. cond (machine.is_file (stream_seen j object)) (positioned m who (advanced d.position size)) m) is

  abbrev LeftMoved : Type 0
  LeftMoved = Left (moved_over os size (description_behind os u.process (argument c 0))) (machine.moved_over m who size (described m who))

  left_console : (k : Kind) → d.kind ≡ k → is_file k ≡ false → machine.is_file (stream_seen k object) ≡ false → LeftMoved
  left_console k is console terminal =
      let records = moved-console os u d call.behind (ap is_file is ∙ console) size in
      let seen = moved_by k is ∙ ap (λ b. cond b (positioned m who (advanced d.position size)) m) terminal in
      subst (λ (x : LibOs × Mono). Left x.0 x.1) (λ i. (sym records i, sym seen i)) left_as_is

  left_moved : (k : Kind) → d.kind ≡ k → LeftMoved
  left_moved ConIn is = left_console ConIn is refl refl
  left_moved ConOut is = left_console ConOut is refl refl
  left_moved ConErr is = left_console ConErr is refl refl
  left_moved File is =
      let records = moved-file os u d call.behind (ap is_file is) size in
      subst (λ (x : LibOs × Mono). Left x.0 x.1) (λ i. (sym records i, sym (moved_by File is) i)) (left_placed (advanced d.position size))

  -- of a read, or else nothing
  left_by : (read : Bool) → Left (with_change os (cond read (MovesPosition u.process (argument c 0) size) Same)) (cond read (machine.moved_over m who size (described m who)) m)
  left_by true = left_moved d.kind refl
  left_by false = left_as_is

  left : Left (with_change os (store_change c)) (after_store m who size)
  left =
      let read = register u.context 17 == READ in
      subst (λ b. Left (with_change os (cond b (MovesPosition u.process (argument c 0) size) Same)) (after_store m who size)) (sym (ap (λ b. b && read) call.call)) (left_by read)

  event : (os' : LibOs) (o : Objects) → FitsTrap os' o u SetContext → FitsEvent os' o c.event SetContext
  event os' o trap = on_trap os os' w.objects o c.event StoreBytes SetContext refl fits.event trap

  stored_stands : fault ≡ None → Stands (goes_on (with_change os (store_change c)) (service_with_result c result)) (with_visible v after) (meant_at os v c StoreBytes)
  stored_stands is =
      let now = with_change os (store_change c) in
      subst (Stands (goes_on now (service_with_result c result)) (with_visible v after))
      ((λ i. settles (Runs (finished_with (left.means i) (left.caller i) filled result))) ∙ sym (meant_stored is))
      (changed_stands now c w left.records left.objects left.trap filled event result)

  -- the bytes can't be stored
  refused_stands : (x : AccessFault) → fault ≡ Some x → Stands (goes_on os (service_with_result c (error EFAULT))) v (meant_at os v c StoreBytes)
  refused_stands x is = record {
    fits = result_fits os w.objects c (error EFAULT) fits.records named_none
        (event (goes_on os (service_with_result c (error EFAULT))) w.objects
        (FitsTrap-with_service os (Some (service_with_result c (error EFAULT))) w.objects u StoreBytes SetContext trap returns_to));
    means = sym (meant (Some x) is);
  }

pub keeps_store_bytes : (os : LibOs) (c : Cont) (w w' : View) (r : Reply) → FitsStage os w.objects c StoreBytes → IsSound w.objects → AnswersAs w (asked os c StoreBytes) r w' → Holds os c StoreBytes w r w'
keeps_store_bytes os c w w' r fits sound abi =
    let answered : Option AccessFault → Answer = λ x. on_objects w (unless_fault w.objects x (Done, after os c w fits)) in
    elim (fault os c w fits) as (λ x. fault os c w fits ≡ x → answer w (asked os c StoreBytes) r ≡ answered x → Holds os c StoreBytes w r w') [
      | None ↦ λ is at. by_row os c StoreBytes w w' r Done (after os c w fits) abi at (stored_stands os c w fits is)
      | Some Missing ↦ λ is at. by_row os c StoreBytes w w' r BadAddress w.objects abi at (refused_stands os c w fits Missing is)
      | Some Forbidden ↦ λ is at. by_row os c StoreBytes w w' r NoAccess w.objects abi at (refused_stands os c w fits Forbidden is)
    ] refl (ap (on_objects w) (row os c w fits))
