-- The records of the library OS, and what its machine is: the host's world through these records.
use Rattle.std.specs.Prelude.{ℕ, ◌==◌, Bool, true, false, List, [], map, find, filter_map, replicate}
use Rattle.std.specs.Ordering.{nat_cmp}
use Rattle.std.specs.FinMap.{FinMap, get, empty, from_entries}
use Rattle.std.specs.Option.{option_map, unwrap_or}
use Rattle.std.specs.declared.option.Option.{Option}
use Rattle.std.specs.declared.option.Option.TheVariants.{None, Some}
use Rattle.rv_core.specs.declared.context.Context.{Context}
use Rattle.guest_space.specs.Space.{Space}
use Rattle.bas_names.specs.declared.Rule.{Rule}
use Rattle.bas_names.specs.declared.StreamName as stream
use Rattle.bas_names.specs.declared.StreamName.{StreamName}
use Rattle.turn_sched.specs.Lists.{Lists, Waiting}
use Rattle.abi_calls.specs.declared.object.Object.TheVariants.{Thread, Event}
use Rattle.abi_calls.specs.Objects.{Object, Objects, Live, running}
use Rattle.abi_calls.specs.Streams.{stream_of}
use Rattle.abi_calls.specs.World.{Contents}
use Rattle.mono_model.specs.Readable.{Readable}
use Rattle.mono_model.specs.Machine as mono
use Rattle.mono_model.specs.Machine.{Mono, Waiter, Target, Opened, Exits, Wakes, Gone}
use Rattle.libos_state.specs.declared.notes.Kind.{Kind}
use Rattle.libos_state.specs.declared.notes.Kind.TheVariants.{ConIn, ConOut, ConErr, File}
use Rattle.libos_state.specs.declared.notes.Description.{Description}
use Rattle.libos_state.specs.declared.notes.DescriptorNote.{DescriptorNote}
use Rattle.libos_state.specs.declared.notes.ProcessNote.{ProcessNote}
use Rattle.libos_state.specs.declared.notes.Queued.{Queued}
use Rattle.libos_state.specs.declared.notes.ThreadNote.{ThreadNote}
use Rattle.libos_state.specs.declared.state.LibOs.{LibOs}

-- The name of a file; of another stream no name.
abbrev pub name_in : Option StreamName → List ℕ
name_in (Some (stream.TheVariants.File name)) = name
name_in (Some stream.TheVariants.ConIn) = []
name_in (Some stream.TheVariants.ConOut) = []
name_in (Some stream.TheVariants.ConErr) = []
name_in None = []

-- The name of the file that an object is open on.
abbrev pub file_seen : Option Object → List ℕ
file_seen object = name_in (stream_of object)

-- What a description of a kind is open on: the object of its stream alone has the file's name.
abbrev pub stream_seen : Kind → Option Object → StreamName
stream_seen ConIn object = stream.TheVariants.ConIn
stream_seen ConOut object = stream.TheVariants.ConOut
stream_seen ConErr object = stream.TheVariants.ConErr
stream_seen File object = stream.TheVariants.File (file_seen object)

abbrev pub is_file : Kind → Bool
is_file File = true
is_file console = false

-- The record of a process, a thread, a description or a descriptor.
abbrev pub process_named : ℕ → List ProcessNote → Option ProcessNote
process_named pid notes = find (λ n. n.pid == pid) notes

abbrev pub process_with : ℕ → List ProcessNote → Option ProcessNote
process_with handle notes = find (λ n. n.handle == handle) notes

abbrev pub thread_named : ℕ → List ThreadNote → Option ThreadNote
thread_named tid notes = find (λ n. n.tid == tid) notes

abbrev pub thread_with : ℕ → List ThreadNote → Option ThreadNote
thread_with handle notes = find (λ n. n.handle == handle) notes

-- The thread that an event wakes.
abbrev pub thread_woken_by : ℕ → List ThreadNote → Option ThreadNote
thread_woken_by event notes = find (λ n. n.event == event) notes

abbrev pub description_with : ℕ → List Description → Option Description
description_with handle notes = find (λ d. d.handle == handle) notes

abbrev pub description_named : ℕ → List Description → Option Description
description_named id notes = find (λ d. d.id == id) notes

abbrev pub descriptor_named : ℕ → List DescriptorNote → Option DescriptorNote
descriptor_named number notes = find (λ d. d.number == number) notes

-- The description that a descriptor names.
abbrev pub described : List Description → Option DescriptorNote → Option Description
described descriptions None = None
described descriptions (Some d) = description_named d.description descriptions

abbrev pub described_in : LibOs → ℕ → Option ProcessNote → Option Description
described_in os fd None = None
described_in os fd (Some process) =
    described os.descriptions (descriptor_named fd process.descriptors)

-- The description behind a descriptor of the process that has a handle.
abbrev pub description_behind : LibOs → ℕ → ℕ → Option Description
description_behind os process fd = described_in os fd (process_with process os.processes)

-- The memory of a process that hasn't exited.
abbrev pub memory_of_object : Option Object → Space
memory_of_object object = unwrap_or (running object) empty

-- A process with this memory, before it exits.
abbrev pub process_running : ProcessNote → Space → mono.Process
process_running n memory = record {
  memory = memory;
  parent = n.parent;
  break_start = n.break_start;
  break_now = n.break_now;
  handler = n.handler;
  code = None;
  descriptors = from_entries (map (λ d. (d.number, d.description)) n.descriptors);
}

-- What the library OS knows of a process and of its object, by whether it has exited.
abbrev pub process_if : ProcessNote → Space → Option ℕ → mono.Process
process_if n memory None = process_running n memory
process_if n memory (Some code) = mono.exited (process_running n memory) code

abbrev pub process_seen : Live → ProcessNote → mono.Process
process_seen live n = process_if n (memory_of_object (get {R = nat_cmp} live n.handle)) n.code

abbrev pub no_context : Context
no_context = record { pc = 0; x = replicate 31 0 }

-- The registers of a thread's object.
abbrev pub context_of : Option Object → Context
context_of (Some (Thread process context)) = context
context_of _ = no_context

-- Whether an event is set.
abbrev pub is_set : Option Object → Bool
is_set (Some (Event set)) = set
is_set _ = false

-- A thread was woken where its event is set.
abbrev pub thread_seen : Live → ThreadNote → mono.Thread
thread_seen live n = record {
  process = n.pid;
  context = context_of (get {R = nat_cmp} live n.handle);
  woken = is_set (get {R = nat_cmp} live n.event);
  saved = n.saved;
}

abbrev pub description_seen : Live → Description → mono.Description
description_seen live d = record {
  stream = stream_seen d.kind (get {R = nat_cmp} live d.handle);
  access = d.access;
  append = d.append;
  position = d.position;
}

abbrev pub queued_seen : Queued → mono.Queued
queued_seen q = record { thread = q.tid; address = q.address }

abbrev pub processes_of : List ProcessNote → Live → FinMap nat_cmp mono.Process
processes_of notes live = from_entries (map (λ n. (n.pid, process_seen live n)) notes)

abbrev pub threads_of : List ThreadNote → Live → FinMap nat_cmp mono.Thread
threads_of notes live = from_entries (map (λ n. (n.tid, thread_seen live n)) notes)

abbrev pub descriptions_of : List Description → Live → FinMap nat_cmp mono.Description
descriptions_of notes live = from_entries (map (λ d. (d.id, description_seen live d)) notes)

-- The threads of a list of handles that have a record, by their ids.
abbrev pub tids_of : List ThreadNote → List ℕ → List ℕ
tids_of notes handles = filter_map (λ h. option_map (λ n. n.tid) (thread_with h notes)) handles

-- What a waited number stands for: the description, the process or the thread's event that a record
-- has it for; without a record it has gone.
abbrev pub target_by : Option Description → Option ProcessNote → Option ThreadNote → Target
target_by (Some d) process thread = Opened d.id
target_by None (Some n) thread = Exits n.pid
target_by None None (Some n) = Wakes n.tid
target_by None None None = Gone

abbrev pub target_of : LibOs → ℕ → Target
target_of os h =
    target_by (description_with h os.descriptions) (process_with h os.processes)
    (thread_woken_by h os.threads)

-- A waiting thread by its id, if it has a record.
abbrev pub waiter_of : LibOs → Waiting → Option Waiter
waiter_of os w = option_map
    (λ n. record { thread = n.tid; targets = map (target_of os) w.handles; deadline = w.deadline })
    (thread_with w.thread os.threads)

-- The lists of a host by the ids of the threads.
abbrev pub lists_of : LibOs → Lists Waiting → Lists Waiter
lists_of os l = record {
  ready = tids_of os.threads l.ready;
  waiting = filter_map (waiter_of os) l.waiting;
  suspended = [];
  current = None;
}

-- What the library OS has below it: lists of rules on names, top first, and a world's objects and
-- contents, where open files have the names that came through the lists. Above a host alone there
-- is no list.
pub record View : Type 0 where
  pub rules : List (List Rule)
  pub objects : Objects
  pub contents : Contents

abbrev pub over_host : Objects → Contents → View
over_host o x = record { rules = []; objects = o; contents = x }

-- What programs can see of it: the lists, the objects, the files and the input, but nothing that
-- was written to the console.
pub record Visible : Type 0 where
  pub rules : List (List Rule)
  pub objects : Objects
  pub contents : Readable

abbrev pub visible : View → Visible
visible w = record {
  rules = w.rules;
  objects = w.objects;
  contents = record { files = w.contents.files; input = w.contents.input };
}

abbrev pub with_visible : Visible → Objects → Visible
with_visible v o = record v { objects = o }

-- The machine that the records name in a view.
abbrev pub base : LibOs → Visible → Mono
base os w = record {
  processes = processes_of os.processes w.objects.live;
  threads = threads_of os.threads w.objects.live;
  descriptions = descriptions_of os.descriptions w.objects.live;
  lists = lists_of os w.objects.lists;
  queue = map queued_seen os.queue;
  rules = w.rules;
  files = w.contents.files;
  input = w.contents.input;
  next_id = os.next_id;
  positions = w.objects.positions;
  settings = w.objects.settings;
}

abbrev pub tid_of : Option ThreadNote → ℕ
tid_of None = 0
tid_of (Some n) = n.tid

-- The handle of the event that wakes a thread.
abbrev pub event_in : Option ThreadNote → ℕ
event_in None = 0
event_in (Some n) = n.event

abbrev pub pid_of : Option ProcessNote → ℕ
pid_of None = 0
pid_of (Some n) = n.pid

-- The id of the process that has a handle.
abbrev pub pid_with : LibOs → ℕ → ℕ
pid_with os handle = pid_of (process_with handle os.processes)

-- The id of the thread that has a handle.
abbrev pub tid_with : LibOs → ℕ → ℕ
tid_with os handle = tid_of (thread_with handle os.threads)

-- The exit code that the record of process 1 holds.
abbrev pub code_of : Option ProcessNote → Option ℕ
code_of None = None
code_of (Some n) = n.code

abbrev pub exit_code : LibOs → Option ℕ
exit_code os = code_of (process_named 1 os.processes)
