-- What the library OS names of a world: each handle with the kind of object that its place asks.
use Rattle.std.specs.Prelude.{ℕ, ◌==◌, Bool, true, false, List, [], ◌∷◌, ◌++◌, map, count_by}
use Rattle.std.specs.declared.option.Option.{Option}
use Rattle.std.specs.declared.option.Option.TheVariants.{None, Some}
use Rattle.bas_names.specs.declared.StreamName.{StreamName}
use Rattle.bas_names.specs.declared.StreamName.TheVariants as stream
use Rattle.abi_calls.specs.declared.object.Object.TheVariants.{Process, Thread, Event, Stream, ReadEnd, WriteEnd}
use Rattle.abi_calls.specs.Objects.{Object}
use Rattle.libos_state.specs.declared.cont.Cont.{Cont}
use Rattle.libos_state.specs.declared.cont.Stage.{Stage}
use Rattle.libos_state.specs.declared.cont.Stage.TheVariants.{CloseEvent, ExitThread, CloseHandles, OpenConsole, OpenProgram, ProgramLength, ReadProgram, CloseProgram, CreateProcess, AllocateRun, WriteRun, ProtectRun, AllocateStack, WriteBlock, CreateThread, CreateEvent, StartThread, CloseStream}
use Rattle.libos_state.specs.declared.notes.Kind.{Kind}
use Rattle.libos_state.specs.declared.notes.Kind.TheVariants.{ConIn, ConOut, ConErr, File}
use Rattle.libos_state.specs.declared.state.LibOs.{LibOs}
use Rattle.libos_state.specs.Pending.{upcall_in}
use Rattle.libos_state.specs.declared.notes.Description.{Description}
use Rattle.libos_state.specs.Records.{description_with}

-- The kind of object that a place asks: a process, a thread, an event, an end of the console or a
-- file, any stream, or anything that can be closed.
pub data ObjectKind : Type 0 where
  AProcess : ObjectKind
  AThread : ObjectKind
  AnEvent : ObjectKind
  AStreamOf : Kind → ObjectKind
  AStream : ObjectKind
  ToClose : ObjectKind

abbrev pub is_stream_of : Kind → StreamName → Bool
is_stream_of ConIn stream.ConIn = true
is_stream_of ConOut stream.ConOut = true
is_stream_of ConErr stream.ConErr = true
is_stream_of File (stream.File name) = true
is_stream_of _ _ = false

-- An object is of a kind.
abbrev pub is_of : ObjectKind → Option Object → Bool
is_of AProcess (Some (Process memory code)) = true
is_of AThread (Some (Thread process context)) = true
is_of AnEvent (Some (Event set)) = true
is_of (AStreamOf kind) (Some (Stream name)) = is_stream_of kind name
is_of AStream (Some (Stream name)) = true
is_of AStream (Some (ReadEnd pipe)) = true
is_of AStream (Some (WriteEnd pipe)) = true
is_of ToClose (Some (Event set)) = true
is_of ToClose (Some (Stream name)) = true
is_of _ _ = false

-- A handle, and the kind of what it is to name.
abbrev pub Named : Type 0
Named = ℕ × ObjectKind

-- What the records name.
abbrev pub recorded : LibOs → List Named
recorded os =
    map (λ n. (n.handle, AProcess)) os.processes ++
    (map (λ n. (n.handle, AThread)) os.threads ++
    (map (λ n. (n.event, AnEvent)) os.threads ++
    map (λ d. (d.handle, AStreamOf d.kind)) os.descriptions))

-- Handles of these kinds, one after another.
abbrev pub named_as : List ℕ → List ObjectKind → List Named
named_as (h ∷ hs) (kind ∷ kinds) = (h, kind) ∷ named_as hs kinds
named_as _ _ = []

abbrev pub consoles : List ObjectKind
consoles = AStreamOf ConIn ∷ AStreamOf ConOut ∷ AStreamOf ConErr ∷ []

-- What the handles are that a stage keeps: a stream that is closed; the event of a thread that
-- ends; at a start the ends of the console, of which not all may be open yet, then the program's
-- file or the process that is made, its thread and the thread's event.
abbrev pub kinds_at : Stage → List ObjectKind
kinds_at CloseStream = AStream ∷ []
kinds_at CloseEvent = AnEvent ∷ []
kinds_at OpenConsole = consoles
kinds_at OpenProgram = consoles
kinds_at ProgramLength = consoles ++ AStreamOf File ∷ []
kinds_at ReadProgram = consoles ++ AStreamOf File ∷ []
kinds_at CloseProgram = consoles ++ AStreamOf File ∷ []
kinds_at CreateProcess = consoles
kinds_at AllocateRun = consoles ++ AProcess ∷ []
kinds_at WriteRun = consoles ++ AProcess ∷ []
kinds_at ProtectRun = consoles ++ AProcess ∷ []
kinds_at AllocateStack = consoles ++ AProcess ∷ []
kinds_at WriteBlock = consoles ++ AProcess ∷ []
kinds_at CreateThread = consoles ++ AProcess ∷ []
kinds_at CreateEvent = consoles ++ AProcess ∷ AThread ∷ []
kinds_at StartThread = consoles ++ AProcess ∷ AThread ∷ AnEvent ∷ []
kinds_at _ = []

-- A stream that is closed is of the kind of its description, where it still has one.
abbrev pub kind_described : Option Description → ObjectKind
kind_described None = AStream
kind_described (Some d) = AStreamOf d.kind

abbrev pub closed_name : LibOs → ℕ → Named
closed_name os h = (h, kind_described (description_with h os.descriptions))

-- What a stage keeps, and names by it; where a process ends, what is still to be closed. A thread
-- that ends alone has no record any more, and is named besides.
abbrev pub kept_names : LibOs → Cont → Stage → List Named
kept_names os c CloseStream = map (closed_name os) c.handles
kept_names os c CloseEvent =
    ((upcall_in c.event).thread, AThread) ∷ named_as c.handles (kinds_at CloseEvent)
kept_names os c ExitThread = ((upcall_in c.event).thread, AThread) ∷ []
kept_names os c CloseHandles = map (λ h. (h, ToClose)) c.handles
kept_names os c stage = named_as c.handles (kinds_at stage)

-- How often a number is named.
abbrev pub times_named : ℕ → List Named → ℕ
times_named q names = count_by (λ n. n.0 == q) names
