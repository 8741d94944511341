-- The stages of a write: its bytes are read from the caller's memory, and go to the stream.
use Rattle.std.specs.Prelude.{◌≡◌, ◌≢◌, ℕ, ◌+◌, ◌≤◌, ◌==◌, Bool, true, false, not, ◌&&◌, ◌||◌, cond, if◌then◌else◌, nat_lt, List, [], length, bit_and}
use Rattle.std.specs.declared.option.Option.{Option}
use Rattle.std.specs.declared.option.Option.TheVariants.{None, Some}
use Rattle.std.proofs.Common.{refl, sym, ap, subst, ◌∙◌, arith, inl, inr, append-nil, eqb-true}
use Rattle.std.proofs.lemmas.Bool.{cond-true, cond-false, le-ltb, and_parts, and_from, not-true}
use Rattle.guest_space.specs.Space.{memory_of, bytes_from}
use Rattle.guest_space.specs.Access.{AccessFault, Missing, Forbidden, first_fault}
use Rattle.guest_space.proofs.Spaces.{length-bytes_from}
use Rattle.bas_edge.specs.Files.{Files, file_bytes, with_bytes_at}
use Rattle.bas_names.specs.declared.StreamName.{StreamName}
use Rattle.bas_names.specs.declared.StreamName.TheVariants as stream
use Rattle.abi_calls.specs.declared.object.Object.TheVariants.{Stream}
use Rattle.abi_calls.specs.declared.reply.Reply.{Reply}
use Rattle.abi_calls.specs.declared.reply.Reply.TheVariants.{Bytes, Count, Length, BadAddress, NoAccess, TooBig}
use Rattle.abi_calls.specs.declared.threads.Upcall.{Upcall}
use Rattle.abi_calls.specs.Objects.{Object, Objects, object_at, running}
use Rattle.abi_calls.specs.Memory.{memory_read_row, unless_fault}
use Rattle.abi_calls.specs.Streams.{stream_write_row, stream_length_row, write_row}
use Rattle.abi_calls.specs.Sound.{IsSound}
use Rattle.mono_model.specs.Machine as mono
use Rattle.mono_model.specs.Machine.{Mono, register}
use Rattle.mono_model.specs.Written.{nothing, and_then}
use Rattle.mono_model.specs.Calls.{Caller, Trap, WRITE, EFAULT, EFBIG, LONGEST_FILE, error, moved, silently, finished, sent, advanced, positioned, bytes_of, write_file, write_at, write_from, write_to, write_unless, writable, description_of, is_exit}
use Rattle.mono_model.specs.SystemCalls.{served}
use Rattle.libos_state.specs.declared.cont.Cont.{Cont}
use Rattle.libos_state.specs.declared.cont.Stage.{Stage}
use Rattle.libos_state.specs.declared.cont.Stage.TheVariants.{SetContext, ReadBuffer, AppendLength, WriteStream}
use Rattle.libos_state.specs.declared.notes.Description.{Description}
use Rattle.libos_state.specs.declared.notes.Kind.{Kind}
use Rattle.libos_state.specs.declared.notes.Kind.TheVariants.{ConIn, ConOut, ConErr}
use Rattle.libos_state.specs.declared.notes.Kind.TheVariants as kind
use Rattle.libos_state.specs.declared.state.LibOs.{LibOs}
use Rattle.libos_state.specs.Records.{View, Visible, visible, base, is_file, file_seen, stream_seen, description_behind, description_seen}
use Rattle.libos_state.specs.Descriptors.{with_position}
use Rattle.libos_state.specs.Pending.{asked, upcall_in, argument, number, handle_of, wanted_stream}
use Rattle.libos_state.specs.Answered.{bare, goes_on, sends, service_sending, service_writing, service_with_result, with_change, puts_position, answered_at}
use Rattle.libos_state.specs.Laws.{Keeps, files_in}
use Rattle.libos_state.specs.Meaning.{Meaning, caller_in, trap_in, stream_in, stream_described, leads_to, meaning, meant_at}
use Rattle.libos_state.specs.Named.{named_as}
use Rattle.libos_state.specs.Fits.{Fits, FitsRecords, FitsObjects, FitsStage, FitsTrap, FitsEvent, comes_to, is_fit_access, is_fit_append, is_call, is_recorded, is_writable, is_open_file, is_appended, writes, appends, returns}
use Rattle.libos_state.proofs.Holds.{Holds, Keeps-silent}
use Rattle.libos_state.proofs.Rows.{Stands, holds_by, by_row}
use Rattle.libos_state.proofs.Going.{FitsRecords-with_service, FitsObjects-with_service}
use Rattle.libos_state.proofs.Naming.{Trapped, trapped}
use Rattle.libos_state.proofs.Callers.{memory-caller}
use Rattle.libos_state.proofs.OpenStreams.{seen_there, stream_there, access_there, append_there}
use Rattle.libos_state.proofs.Placing.{base-placed, placed-file, placed-console}
use Rattle.libos_state.proofs.Positions.{FitsRecords-with_position, FitsObjects-with_position}
use Rattle.libos_state.proofs.Serving.{returns-call, trap_of, on_trap, named_as-no_kinds, FitsTrap-with_service, result_fits}
use Rattle.abi_calls.specs.World as worlds
use Rattle.abi_calls.specs.World.{on_files}
use Rattle.libos_state.proofs.Views.{world, on_world, Answer, AnswersAs, answer, with_objects, on_contents, on_objects}

-- ---- a write, in the machine

-- What a write does, where its descriptor is open for writing and it has bytes to write.
pub served_write : (m : Mono) (who : Caller) (trap : Trap) (d : mono.Description) → (trap.0 == 8) ≡ true → (register who.context 17 == WRITE) ≡ true →
    description_of m who.process (register who.context 10) ≡ Some d → (bit_and d.access 2 == 2) ≡ true → (register who.context 12 == 0) ≡ false →
    served m who trap ≡ write_from m who d (register who.context 11) (moved (register who.context 12))
served_write m who trap d call number there allowed some =
    cond-true (trap.0 == 8) _ _ call
    ∙ cond-true (register who.context 17 == WRITE) _ _ number
    ∙ ap (λ x. write_to m who (writable x)) there
    ∙ ap (write_to m who) (cond-true (bit_and d.access 2 == 2) (Some d) None allowed)
    ∙ cond-false (register who.context 12 == 0) _ _ some

moved_within : (count : ℕ) → moved count ≤ 65536
moved_within count = omega arith

-- ---- a write, by its trap

-- The trap of a write of some bytes to a descriptor that is open for writing.
pub record Writes (os : LibOs) (u : Upcall) : Type 0 where
  pub call : (u.cause == 8) ≡ true
  pub number : (register u.context 17 == WRITE) ≡ true
  pub some : (register u.context 12 == 0) ≡ false
  pub description : Description
  pub behind : description_behind os u.process (register u.context 10) ≡ Some description
  pub writable : (bit_and description.access 2 == 2) ≡ true

pub record WritableOf (x : Option Description) : Type 0 where
  pub description : Description
  pub is : x ≡ Some description
  pub writable : (bit_and description.access 2 == 2) ≡ true

writable_of : (x : Option Description) → is_writable x ≡ true → WritableOf x
writable_of None is = absurd (cc)
writable_of (Some d) is = record { description = d; is = refl; writable = is }

pub writes_of : (os : LibOs) (u : Upcall) → writes os u ≡ true → Writes os u
writes_of os u is =
    let parts = and_parts (is_call u WRITE) (not (register u.context 12 == 0) && is_writable (description_behind os u.process (register u.context 10))) is in
    let call = and_parts (u.cause == 8) (register u.context 17 == WRITE) parts.0 in
    let rest = and_parts (not (register u.context 12 == 0)) (is_writable (description_behind os u.process (register u.context 10))) parts.1 in
    let target = writable_of (description_behind os u.process (register u.context 10)) rest.1 in
    record {
      call = call.0;
      number = call.1;
      some = not-true (register u.context 12 == 0) rest.0;
      description = target.description;
      behind = target.is;
      writable = target.writable;
    }

-- A write goes on behind its call.
pub returns-writes : (os : LibOs) (u : Upcall) → Writes os u → is_recorded os u ≡ true → returns os u ≡ true
returns-writes os u writes recorded = returns-call os u writes.call (ap is_exit (eqb-true (register u.context 17) WRITE writes.number)) recorded

not_written : (access : ℕ) → (access == 1) ≡ true → (bit_and access 2 == 2) ≡ true → ⊥
not_written access one writes = let e : false ≡ true = sym (ap (λ n. bit_and n 2 == 2) (eqb-true access 1 one)) ∙ writes in cc

-- What is open for writing is no input, and what appends is a file.
no_input : (k : Kind) (access : ℕ) → is_fit_access k access ≡ true → (bit_and access 2 == 2) ≡ true → k ≢ ConIn
no_input k access fits written is = not_written access (ap (λ j. is_fit_access j access) (sym is) ∙ fits) written

appends_file : (k : Kind) → is_fit_append k true ≡ true → k ≡ kind.File
appends_file ConIn fits = absurd (cc)
appends_file ConOut fits = absurd (cc)
appends_file ConErr fits = absurd (cc)
appends_file kind.File fits = refl

-- ---- a service of a write

-- The trap of a write's stage.
pub record WriteTrap (os : LibOs) (o : Objects) (u : Upcall) (stage : Stage) : Type 0 where
  pub trap : FitsTrap os o u stage
  pub home : Trapped os o u
  pub writes : Writes os u
  pub recorded : is_recorded os u ≡ true
  pub returns : returns os u ≡ true

write_trap : (os : LibOs) (o : Objects) (u : Upcall) (stage : Stage) → FitsRecords os → FitsObjects os o [] None → FitsTrap os o u stage
    → (writes os u && is_recorded os u) ≡ true → WriteTrap os o u stage
write_trap os o u stage records objects trap comes =
    let parts = and_parts (writes os u) (is_recorded os u) comes in
    let write = writes_of os u parts.0 in
    record {
      trap = trap;
      home = trapped os o u [] None records objects trap.home parts.1;
      writes = write;
      recorded = parts.1;
      returns = returns-writes os u write parts.1;
    }

none_kept : (os : LibOs) (o : Objects) (c : Cont) → FitsObjects os o (named_as c.handles []) None → FitsObjects os o [] None
none_kept os o c fits = subst (λ kept. FitsObjects os o kept None) (named_as-no_kinds c.handles) fits

-- What the machine sees of the stream that is written.
module _ (os : LibOs) (c : Cont) (v : Visible) (stage : Stage) (records : FitsRecords os) (objects : FitsObjects os v.objects [] None)
    (at : WriteTrap os v.objects (upcall_in c.event) stage) where
  abbrev u : Upcall
  u = upcall_in c.event

  abbrev d : Description
  d = at.writes.description

  abbrev m : Mono
  m = base os v

  abbrev who : Caller
  who = caller_in os c

  abbrev seen : mono.Description
  seen = description_seen v.objects.live d

  abbrev read_bytes : List ℕ
  read_bytes = bytes_from (memory_of at.home.links.memory) (argument c 1) (moved (argument c 2))

  abbrev read_fault : Option AccessFault
  read_fault = first_fault (memory_of at.home.links.memory) 1 (argument c 1) (moved (argument c 2))

  pub served_is : served m who (trap_in c) ≡ write_unless m who seen read_bytes read_fault
  served_is = served_write m who (trap_in c) seen at.writes.call at.writes.number
      (seen_there os v u [] None records objects at.home d at.writes.behind) at.writes.writable at.writes.some
      ∙ ap (λ s. write_unless m who seen (bytes_from (memory_of s) (argument c 1) (moved (argument c 2))) (first_fault (memory_of s) 1 (argument c 1) (moved (argument c 2)))) (memory-caller os c v records at.home)

  pub wanted_there : object_at v.objects (wanted_stream os c) ≡ Some (Stream seen.stream)
  wanted_there = ap (λ x. object_at v.objects (handle_of x)) at.writes.behind ∙ stream_there os v u [] None records objects at.home d at.writes.behind

  pub stream_is : stream_in os v c ≡ seen.stream
  stream_is = ap (stream_described v) at.writes.behind

  pub not_input : d.kind ≢ ConIn
  not_input = no_input d.kind d.access (access_there os v u [] None records objects at.home d at.writes.behind) at.writes.writable

  pub appending_file : d.append ≡ true → d.kind ≡ kind.File
  appending_file appends = appends_file d.kind (ap (is_fit_append d.kind) (sym appends) ∙ append_there os v u [] None records objects at.home d at.writes.behind)

-- ---- the bytes are read

module _ (os : LibOs) (c : Cont) (v : Visible) (fits : FitsStage os v.objects c ReadBuffer) where
  none_named : FitsObjects os v.objects [] None
  none_named = none_kept os v.objects c fits.objects

  abbrev reading : WriteTrap os v.objects (upcall_in c.event) ReadBuffer
  reading =
      let trap = trap_of os v.objects c.event ReadBuffer refl fits.event in
      write_trap os v.objects (upcall_in c.event) ReadBuffer fits.records none_named trap trap.comes

  abbrev description : Description
  description = reading.writes.description

  abbrev seen_by : mono.Description
  seen_by = description_seen v.objects.live description

  abbrev bytes_read : List ℕ
  bytes_read = bytes_from (memory_of reading.home.links.memory) (argument c 1) (moved (argument c 2))

  abbrev fault_read : Option AccessFault
  fault_read = first_fault (memory_of reading.home.links.memory) 1 (argument c 1) (moved (argument c 2))

  row_read : memory_read_row v.objects (argument c 1) (moved (argument c 2)) (running (object_at v.objects (upcall_in c.event).process)) ≡ unless_fault v.objects fault_read (Bytes bytes_read, v.objects)
  row_read =
      let there = ap (λ h. running (object_at v.objects h)) reading.home.process ∙ ap running reading.home.links.runs in
      ap (memory_read_row v.objects (argument c 1) (moved (argument c 2))) there
      ∙ cond-false (nat_lt 65536 (moved (argument c 2))) (TooBig, v.objects) (unless_fault v.objects fault_read (Bytes bytes_read, v.objects)) (le-ltb 65536 (moved (argument c 2)) (moved_within (argument c 2)))

  all_read : length bytes_read ≡ moved (argument c 2)
  all_read = length-bytes_from (memory_of reading.home.links.memory) (argument c 1) (moved (argument c 2))

  read_means : (fault : Option AccessFault) → fault_read ≡ fault → leads_to (write_unless (base os v) (caller_in os c) seen_by bytes_read fault) ≡ meant_at os v c ReadBuffer
  read_means fault is = ap leads_to (sym (served_is os c v ReadBuffer fits.records none_named reading ∙ ap (write_unless (base os v) (caller_in os c) seen_by bytes_read) is))

  trap_at : (next : Cont) (stage : Stage) → comes_to os (upcall_in c.event) stage ≡ true → FitsEvent (goes_on os next) v.objects c.event stage
  trap_at next stage comes = on_trap os (goes_on os next) v.objects v.objects c.event ReadBuffer stage refl fits.event
      (FitsTrap-with_service os (Some next) v.objects (upcall_in c.event) ReadBuffer stage reading.trap comes)

  -- they go to the stream from an offset on, which is 0 for the console
  abbrev writing_at : ℕ → Cont
  writing_at offset = service_writing c bytes_read offset

  write_next : (offset : ℕ) → (is_file description.kind || offset == 0) ≡ true → FitsStage (goes_on os (writing_at offset)) v.objects (writing_at offset) WriteStream
  write_next offset fitting = record {
    records = FitsRecords-with_service os os.boot (Some (writing_at offset)) fits.records;
    objects = FitsObjects-with_service os os.boot (Some (writing_at offset)) v.objects [] None none_named;
    event = trap_at (writing_at offset) WriteStream reading.trap.comes;
    lists = record { next = λ keeps. refl; names = λ keeps. refl; bytes = λ keeps. absurd (cc); handles = refl; later = refl; numbers = refl };
    names = tt;
    kept = (ap (λ x. is_open_file x || offset == 0) reading.writes.behind ∙ fitting, all_read);
    made = tt;
  }

  -- or the length of the file is asked for
  abbrev appending : Cont
  appending = record (bare c AppendLength) { bytes = bytes_read }

  append_next : description.append ≡ true → FitsStage (goes_on os appending) v.objects appending AppendLength
  append_next appends = record {
    records = FitsRecords-with_service os os.boot (Some appending) fits.records;
    objects = FitsObjects-with_service os os.boot (Some appending) v.objects [] None none_named;
    event = trap_at appending AppendLength
        (let parts = and_parts (writes os (upcall_in c.event)) (is_recorded os (upcall_in c.event)) reading.trap.comes in
        and_from _ _ (and_from _ _ parts.0 (ap is_appended reading.writes.behind ∙ appends)) parts.1);
    lists = record { next = λ keeps. refl; names = λ keeps. refl; bytes = λ keeps. absurd (cc); handles = refl; later = refl; numbers = refl };
    names = tt;
    kept = all_read;
    made = tt;
  }

  offset_means : (k : Kind) (x : Option Object) (position : ℕ)
      → write_at (base os v) (caller_in os c) (cond (is_file k) position 0) bytes_read (stream_seen k x) ≡ write_at (base os v) (caller_in os c) position bytes_read (stream_seen k x)
  offset_means ConIn x position = refl
  offset_means ConOut x position = refl
  offset_means ConErr x position = refl
  offset_means kind.File x position = refl

  abbrev sending : Bool → Cont
  sending append = cond append appending (writing_at (cond (is_file description.kind) description.position 0))

  kind_or_zero : (k : Kind) (position : ℕ) → (is_file k || cond (is_file k) position 0 == 0) ≡ true
  kind_or_zero ConIn position = refl
  kind_or_zero ConOut position = refl
  kind_or_zero ConErr position = refl
  kind_or_zero kind.File position = refl

  seen_in : stream_in os v c ≡ seen_by.stream
  seen_in = stream_is os c v ReadBuffer fits.records none_named reading

  send_stands : fault_read ≡ None → (append : Bool) → description.append ≡ append → Stands (goes_on os (sending append)) v (meant_at os v c ReadBuffer)
  send_stands none true appends = record {
    fits = append_next appends;
    means = ap (λ s. leads_to (write_at (base os v) (caller_in os c) (length (bytes_of (base os v) s)) bytes_read s)) seen_in
        ∙ ap (λ b. leads_to (write_at (base os v) (caller_in os c) (cond b (length (bytes_of (base os v) seen_by.stream)) seen_by.position) bytes_read seen_by.stream)) (sym appends)
        ∙ read_means None none;
  }
  send_stands none false appends = record {
    fits = write_next (cond (is_file description.kind) description.position 0) (kind_or_zero description.kind description.position);
    means = ap (λ s. leads_to (write_at (base os v) (caller_in os c) (cond (is_file description.kind) description.position 0) bytes_read s)) seen_in
        ∙ ap leads_to (offset_means description.kind (object_at v.objects description.handle) description.position)
        ∙ ap (λ b. leads_to (write_at (base os v) (caller_in os c) (cond b (length (bytes_of (base os v) seen_by.stream)) seen_by.position) bytes_read seen_by.stream)) (sym appends)
        ∙ read_means None none;
  }

  sends_is : sends os (record c { bytes = bytes_read }) ≡ goes_on os (sending description.append)
  sends_is = ap (λ x. goes_on os (service_sending (record c { bytes = bytes_read }) x)) reading.writes.behind

  sent_stands : fault_read ≡ None → Stands (answered_at os c ReadBuffer (Bytes bytes_read)) v (meant_at os v c ReadBuffer)
  sent_stands none = subst (λ x. Stands x v (meant_at os v c ReadBuffer)) (sym sends_is) (send_stands none description.append refl)

  abbrev failing : Cont
  failing = service_with_result c (error EFAULT)

  fails_next : FitsStage (goes_on os failing) v.objects failing SetContext
  fails_next = result_fits os v.objects c (error EFAULT) fits.records none_named (trap_at failing SetContext reading.returns)

pub keeps_read_buffer : (os : LibOs) (c : Cont) (w w' : View) (r : Reply) → FitsStage os w.objects c ReadBuffer → IsSound w.objects → AnswersAs w (asked os c ReadBuffer) r w' → Holds os c ReadBuffer w r w'
keeps_read_buffer os c w w' r fits sound abi =
    let v : Visible = visible w in
    let row : Option AccessFault → Answer = λ fault. on_objects w (unless_fault w.objects fault (Bytes (bytes_read os c v fits), w.objects)) in
    let answers = ap (on_objects w) (row_read os c v fits) in
    elim (fault_read os c v fits) as (λ fault. fault_read os c v fits ≡ fault → on_objects w (memory_read_row w.objects (argument c 1) (moved (argument c 2)) (running (object_at w.objects (upcall_in c.event).process))) ≡ row fault → Holds os c ReadBuffer w r w') [
      | None ↦ λ is at. by_row os c ReadBuffer w w' r (Bytes (bytes_read os c v fits)) w.objects abi at (sent_stands os c v fits is)
      | Some Missing ↦ λ is at. by_row os c ReadBuffer w w' r BadAddress w.objects abi at (record { fits = fails_next os c v fits; means = read_means os c v fits (Some Missing) is })
      | Some Forbidden ↦ λ is at. by_row os c ReadBuffer w w' r NoAccess w.objects abi at (record { fits = fails_next os c v fits; means = read_means os c v fits (Some Forbidden) is })
    ] refl answers

-- ---- the length of the file is asked for

module _ (os : LibOs) (c : Cont) (w : View) (fits : FitsStage os w.objects c AppendLength) where
  abbrev v : Visible
  v = visible w

  none_there : FitsObjects os v.objects [] None
  none_there = none_kept os v.objects c fits.objects

  trap_there : FitsTrap os w.objects (upcall_in c.event) AppendLength
  trap_there = trap_of os w.objects c.event AppendLength refl fits.event

  parts : ((writes os (upcall_in c.event) && is_appended (description_behind os (upcall_in c.event).process (argument c 0))) ≡ true) × (is_recorded os (upcall_in c.event) ≡ true)
  parts = and_parts (appends os (upcall_in c.event)) (is_recorded os (upcall_in c.event)) trap_there.comes

  appended : (writes os (upcall_in c.event) ≡ true) × (is_appended (description_behind os (upcall_in c.event).process (argument c 0)) ≡ true)
  appended = and_parts (writes os (upcall_in c.event)) (is_appended (description_behind os (upcall_in c.event).process (argument c 0))) parts.0

  abbrev measuring : WriteTrap os w.objects (upcall_in c.event) AppendLength
  measuring = write_trap os w.objects (upcall_in c.event) AppendLength fits.records none_there trap_there (and_from _ _ appended.0 parts.1)

  abbrev it : Description
  it = measuring.writes.description

  it_appends : it.append ≡ true
  it_appends = ap is_appended (sym measuring.writes.behind) ∙ appended.1

  file_it : it.kind ≡ kind.File
  file_it = appending_file os c v AppendLength fits.records none_there measuring it_appends

  abbrev name : List ℕ
  name = file_seen (object_at w.objects it.handle)

  abbrev size : ℕ
  size = length (file_bytes w.contents.files name)

  named_is : (description_seen v.objects.live it).stream ≡ stream.File name
  named_is = ap (λ k. stream_seen k (object_at w.objects it.handle)) file_it

  row_length : (r : Reply) → answer w (asked os c AppendLength) r ≡ (Length size, with_objects w w.objects)
  row_length r = ap (λ x. on_world w (stream_length_row (world w) x))
      (wanted_there os c v AppendLength fits.records none_there measuring ∙ ap (λ s. Some (Stream s)) named_is)

  abbrev next_writing : Cont
  next_writing = service_writing c c.bytes size

  length_stands : Stands (goes_on os next_writing) v (meant_at os v c AppendLength)
  length_stands = record {
    fits = record {
      records = FitsRecords-with_service os os.boot (Some next_writing) fits.records;
      objects = FitsObjects-with_service os os.boot (Some next_writing) w.objects [] None none_there;
      event = on_trap os (goes_on os next_writing) w.objects w.objects c.event AppendLength WriteStream refl fits.event
          (FitsTrap-with_service os (Some next_writing) w.objects (upcall_in c.event) AppendLength WriteStream trap_there (and_from _ _ appended.0 parts.1));
      lists = record { next = λ keeps. refl; names = λ keeps. refl; bytes = λ keeps. absurd (cc); handles = refl; later = refl; numbers = refl };
      names = tt;
      kept = (ap (λ x. is_open_file x || size == 0) measuring.writes.behind ∙ ap (λ k. is_file k || size == 0) file_it, fits.kept);
      made = tt;
    };
    means =
        let to = stream_is os c v AppendLength fits.records none_there measuring ∙ named_is in
        ap (λ s. leads_to (write_at (base os v) (caller_in os c) size c.bytes s)) to
        ∙ sym (ap (λ s. leads_to (write_at (base os v) (caller_in os c) (length (bytes_of (base os v) s)) c.bytes s)) to);
  }

pub keeps_append_length : (os : LibOs) (c : Cont) (w w' : View) (r : Reply) → FitsStage os w.objects c AppendLength → IsSound w.objects → AnswersAs w (asked os c AppendLength) r w' → Holds os c AppendLength w r w'
keeps_append_length os c w w' r fits sound abi =
    by_row os c AppendLength w w' r (Length (size os c w fits)) w.objects abi (row_length os c w fits r) (length_stands os c w fits)

-- ---- the bytes go to the stream

module _ (os : LibOs) (c : Cont) (w : View) (fits : FitsStage os w.objects c WriteStream) where
  abbrev of_world : Visible
  of_world = visible w

  named_none : FitsObjects os w.objects [] None
  named_none = none_kept os w.objects c fits.objects

  abbrev writing : WriteTrap os w.objects (upcall_in c.event) WriteStream
  writing =
      let trap = trap_of os w.objects c.event WriteStream refl fits.event in
      write_trap os w.objects (upcall_in c.event) WriteStream fits.records named_none trap trap.comes

  abbrev written : Description
  written = writing.writes.description

  abbrev object : Option Object
  object = object_at w.objects written.handle

  few_bytes : length c.bytes ≤ 65536
  few_bytes = let is : length c.bytes ≡ moved (argument c 2) = fits.kept.1 in omega (arith, is, moved_within (argument c 2))

  abbrev written_to : StreamName → Answer
  written_to s = on_contents w (write_row w.contents (number c 0) c.bytes s)

  row_written : (r : Reply) → on_world w (stream_write_row (world w) (number c 0) c.bytes r (object_at w.objects (wanted_stream os c))) ≡ written_to (stream_seen written.kind object)
  row_written r = ap (λ x. on_world w (stream_write_row (world w) (number c 0) c.bytes r x)) (wanted_there os c of_world WriteStream fits.records named_none writing)
      ∙ ap (on_world w) (cond-false (nat_lt 65536 (length c.bytes)) (TooBig, world w) (worlds.on_contents (world w) (write_row w.contents (number c 0) c.bytes (stream_seen written.kind object)))
      (le-ltb 65536 (length c.bytes) few_bytes))

  abbrev result : ℕ → Cont
  result n = service_with_result c n

  result_next : (n : ℕ) → FitsStage (goes_on os (result n)) w.objects (result n) SetContext
  result_next n = result_fits os w.objects c n fits.records named_none
      (on_trap os (goes_on os (result n)) w.objects w.objects c.event WriteStream SetContext refl fits.event
      (FitsTrap-with_service os (Some (result n)) w.objects (upcall_in c.event) WriteStream SetContext writing.trap writing.returns))

  stream_written : stream_in os of_world c ≡ stream_seen written.kind object
  stream_written = stream_is os c of_world WriteStream fits.records named_none writing

  abbrev put : LibOs
  put = with_change os (puts_position c (advanced (number c 0) (length c.bytes)))

  -- to the console: nothing is put
  sent_all : (s : StreamName) → and_then (sent s c.bytes) nothing ≡ sent s c.bytes
  sent_all stream.ConIn = refl
  sent_all stream.ConOut = λ i. record { output = append-nil c.bytes i; errors = [] }
  sent_all stream.ConErr = λ i. record { output = []; errors = append-nil c.bytes i }
  sent_all (stream.File file) = refl

  put_console : is_file written.kind ≡ false → put ≡ os
  put_console console = placed-console os (upcall_in c.event) written writing.writes.behind console (advanced (number c 0) (length c.bytes))

  abbrev console_meant : StreamName → Meaning
  console_meant s = leads_to (finished (base os of_world) (caller_in os c) (length c.bytes), and_then (sent s c.bytes) nothing)

  console_means : (s : StreamName) → stream_seen written.kind object ≡ s → write_at (base os of_world) (caller_in os c) (number c 0) c.bytes s ≡ (finished (base os of_world) (caller_in os c) (length c.bytes), sent s c.bytes)
      → meant_at os of_world c WriteStream ≡ console_meant s
  console_means s is at = ap (λ t. leads_to (write_at (base os of_world) (caller_in os c) (number c 0) c.bytes t)) (stream_written ∙ is) ∙ ap leads_to at
      ∙ ap (λ x. leads_to (finished (base os of_world) (caller_in os c) (length c.bytes), x)) (sym (sent_all s))

  abbrev HoldsTo : LibOs → Answer → Type 0
  HoldsTo left x = Fits (goes_on left (result (length c.bytes))) x.1.objects
      × Keeps w (meant_at os of_world c WriteStream) x.1 (meaning (goes_on left (result (length c.bytes))) (visible x.1))

  holds_to : (x : Answer) → x.0 ≡ Count (length c.bytes) → HoldsTo put x → Holds os c WriteStream w x.0 x.1
  holds_to x is holds = subst (λ (y : Reply). Holds os c WriteStream w y x.1) (sym is) (record { fits = holds.0; keeps = holds.1 })

  console_holds : (k : Kind) → written.kind ≡ k → k ≢ ConIn → k ≢ kind.File → HoldsTo os (written_to (stream_seen k object))
  console_holds ConIn is no_input no_file = absurd (no_input refl)
  console_holds ConOut is no_input no_file = (
    result_next (length c.bytes),
    record {
      written = sent stream.ConOut c.bytes;
      output = refl;
      errors = sym (append-nil w.contents.errors);
      input = record { taken = []; is = refl };
      files = inl refl;
      same = console_means stream.ConOut (ap (λ j. stream_seen j object) is) refl;
    },
  )
  console_holds ConErr is no_input no_file = (
    result_next (length c.bytes),
    record {
      written = sent stream.ConErr c.bytes;
      output = sym (append-nil w.contents.output);
      errors = refl;
      input = record { taken = []; is = refl };
      files = inl refl;
      same = console_means stream.ConErr (ap (λ j. stream_seen j object) is) refl;
    },
  )
  console_holds kind.File is no_input no_file = absurd (no_file refl)

  -- into a file: its position is behind them
  module _ (is : written.kind ≡ kind.File) where
    abbrev file : List ℕ
    file = file_seen object

    abbrev offset : ℕ
    offset = number c 0

    abbrev position : ℕ
    position = advanced offset (length c.bytes)

    abbrev placed : LibOs
    placed = with_position os written.id position

    abbrev new_files : Files
    new_files = with_bytes_at file offset c.bytes w.contents.files

    abbrev filled : View
    filled = record w { contents = record w.contents { files = new_files } }

    put_file : put ≡ placed
    put_file = placed-file os (upcall_in c.event) written writing.writes.behind (ap is_file is) position

    placed_next : FitsStage (goes_on placed (result (length c.bytes))) w.objects (result (length c.bytes)) SetContext
    placed_next = result_fits placed w.objects c (length c.bytes) (FitsRecords-with_position os written.id position fits.records)
        (FitsObjects-with_position os written.id position w.objects [] None named_none)
        (on_trap os (goes_on placed (result (length c.bytes))) w.objects w.objects c.event WriteStream SetContext refl fits.event
        (record { up = writing.trap.up; first = writing.trap.first; current = writing.trap.current; home = writing.trap.home; comes = writing.returns }))

    file_means : meant_at os of_world c WriteStream ≡ leads_to (silently (write_file (base os of_world) (caller_in os c) file offset c.bytes))
    file_means = ap (λ t. leads_to (write_at (base os of_world) (caller_in os c) offset c.bytes t)) (stream_written ∙ ap (λ j. stream_seen j object) is)

    abbrev machine_filled : Mono
    machine_filled = record (base os of_world) { files = new_files }

    abbrev written_means : Mono
    written_means = finished (positioned machine_filled (caller_in os c) position) (caller_in os c) (length c.bytes)

    placed_is : base placed (visible filled) ≡ positioned machine_filled (caller_in os c) position
    placed_is = base-placed os (visible filled) (upcall_in c.event) [] None fits.records named_none writing.home written writing.writes.behind position

    file_holds : (long : Bool) → nat_lt LONGEST_FILE (offset + length c.bytes) ≡ long
        → Holds os c WriteStream w (on_contents w (on_files w.contents (if long then (TooBig, w.contents.files) else (Count (length c.bytes), new_files)))).0
        (on_contents w (on_files w.contents (if long then (TooBig, w.contents.files) else (Count (length c.bytes), new_files)))).1
    file_holds true long = record {
      fits = result_next (error EFBIG);
      keeps = Keeps-silent w w (meant_at os of_world c WriteStream) (meaning (goes_on os (result (error EFBIG))) of_world) refl
          (sym (file_means ∙ ap (λ (x : Mono). leads_to (silently x))
          (cond-true (nat_lt LONGEST_FILE (offset + length c.bytes)) (finished (base os of_world) (caller_in os c) (error EFBIG)) written_means long)));
    }
    file_holds false long =
        let means : meant_at os of_world c WriteStream ≡ leads_to (silently written_means) =
        file_means ∙ ap (λ (x : Mono). leads_to (silently x))
        (cond-false (nat_lt LONGEST_FILE (offset + length c.bytes)) (finished (base os of_world) (caller_in os c) (error EFBIG)) written_means long) in
        let new : meaning (goes_on placed (result (length c.bytes))) (visible filled) ≡ leads_to (silently written_means) =
        ap (λ (x : Mono). leads_to (silently (finished x (caller_in os c) (length c.bytes)))) placed_is in
        holds_to (Count (length c.bytes), filled) refl (subst (λ left. HoldsTo left (Count (length c.bytes), filled)) (sym put_file) (
          placed_next,
          record {
            written = nothing;
            output = sym (append-nil w.contents.output);
            errors = sym (append-nil w.contents.errors);
            input = record { taken = []; is = refl };
            files = inr (sym (ap (λ (x : Meaning). files_in x.0 w.contents.files) means ∙ ap (λ (x : Mono). x.files) (sym placed_is)));
            same = means ∙ sym new;
          },
        ))

  stream_holds : (k : Kind) → written.kind ≡ k → Holds os c WriteStream w (written_to (stream_seen k object)).0 (written_to (stream_seen k object)).1
  stream_holds ConIn is = absurd (not_input os c of_world WriteStream fits.records named_none writing is)
  stream_holds ConOut is = holds_to (written_to stream.ConOut) refl
      (subst (λ left. HoldsTo left (written_to stream.ConOut)) (sym (put_console (ap is_file is))) (console_holds ConOut is (λ e. absurd (cc)) (λ e. absurd (cc))))
  stream_holds ConErr is = holds_to (written_to stream.ConErr) refl
      (subst (λ left. HoldsTo left (written_to stream.ConErr)) (sym (put_console (ap is_file is))) (console_holds ConErr is (λ e. absurd (cc)) (λ e. absurd (cc))))
  stream_holds kind.File is = file_holds is (nat_lt LONGEST_FILE (number c 0 + length c.bytes)) refl

pub keeps_write_stream : (os : LibOs) (c : Cont) (w w' : View) (r : Reply) → FitsStage os w.objects c WriteStream → IsSound w.objects → AnswersAs w (asked os c WriteStream) r w' → Holds os c WriteStream w r w'
keeps_write_stream os c w w' r fits sound abi =
    holds_by os c WriteStream w w' r (written_to os c w fits (stream_seen (written os c w fits).kind (object os c w fits))) abi (row_written os c w fits r)
    (stream_holds os c w fits (written os c w fits).kind refl)
