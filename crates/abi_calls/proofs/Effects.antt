-- What a call can do to a world, one field each, with the call and the reply to it. What holds of each holds of every answer.
use Rattle.std.specs.Prelude.{◌≡◌, ℕ, zero, suc, ◌+◌, ◌==◌, ◌<◌, ◌≤◌, Bool, true, false, cond, not, ◌&&◌, ◌||◌, nat_lt, nat_le, is_some, length, take, drop, List, [], ◌++◌}
use Rattle.std.specs.FinMap.{empty, len}
use Rattle.std.specs.declared.option.Option.{Option}
use Rattle.std.specs.declared.option.Option.TheVariants.{None, Some}
use Rattle.std.proofs.Common.{arith, refl, subst, ap, ◌∙◌, eqb-true, leb-true, leb-false, ltb-false, le-leb}
use Rattle.rv_core.specs.declared.context.Context.{Context}
use Rattle.bas_names.specs.declared.StreamName.{StreamName}
use Rattle.bas_names.specs.declared.StreamName.TheVariants.{File, ConIn, ConOut, ConErr}
use Rattle.bas_edge.specs.Files.{Files, file_of, with_file, with_bytes_at, with_length, without_file, with_renamed}
use Rattle.guest_space.specs.Space.{Space, memory_of, with_run, without_run, protected, bytes_from, with_memory}
use Rattle.guest_space.specs.Run.{is_run, first_held, first_missing}
use Rattle.guest_space.specs.Access.{AccessFault, Missing, Forbidden, first_fault, with_bytes}
use Rattle.turn_sched.specs.Lists.{is_resting, with_resumed}
use Rattle.abi_calls.specs.declared.limits.TheConstants.{MOST_BYTES, MOST_PAGES, MOST_PROCESSES, MOST_THREADS, LONGEST_NAME, LONGEST_FILE, ALL_RIGHTS, READ_RIGHT, WRITE_RIGHT}
use Rattle.abi_calls.specs.declared.call.Call.{Call}
use Rattle.abi_calls.specs.declared.call.Call.TheVariants.{MemoryAllocate, MemoryFree, MemoryProtect, MemoryRead, MemoryWrite, ThreadCreate, ThreadResume, ThreadExit, ThreadContext, EventCreate, StreamOpen, StreamRead, StreamWrite, StreamLength, StreamSetLength, StreamDelete, StreamRename, Share, Close, ProcessCreate, ProcessExit, ProcessStatus, Configure, Positions as AskPositions}
use Rattle.abi_calls.specs.declared.object.Object.TheVariants.{Process, Thread, Event, Stream}
use Rattle.abi_calls.specs.declared.reply.Reply.{Reply}
use Rattle.abi_calls.specs.declared.reply.Reply.TheVariants.{Done, Handle, Bytes, Count, BadHandle, NotFound, Exists, Busy, NoAccess, BadAddress, NoRoom, TooBig}
use Rattle.turn_sched.specs.declared.settings.Positions.{Positions}
use Rattle.turn_sched.specs.declared.settings.Settings.{Settings}
use Rattle.abi_calls.specs.Objects.{Object, Objects, object_at, running, is_thread, is_process, number_of, with_object, with_lists, without_handles}
use Rattle.abi_calls.specs.World.{World, Answer, with_objects, with_contents, with_files, on_objects, on_contents, on_files}
use Rattle.abi_calls.specs.Memory.{with_pages, memory_allocate_row, memory_free_row, memory_protect_row, memory_read_row, memory_write_row, unless_fault}
use Rattle.abi_calls.specs.Threads.{with_thread, thread_create_row, thread_resume_row, thread_exit_row, thread_context_row}
use Rattle.abi_calls.specs.Streams.{is_name, is_open, named, delete_found, rename_found, set_length_row, stream_set_length_row, stream_delete_row, stream_rename_row, shared_object, share_row, open_found, open_answer, stream_open_row, read_row, stream_read_row, write_row, stream_write_row, length_row, stream_length_row}
use Rattle.abi_calls.specs.Processes.{close_row, process_create_row, process_exit_row, process_status_row, configure_row, without_threads, is_running, is_acceptable}
use Rattle.abi_calls.specs.Sound.{is_sound_name}
use Rattle.abi_calls.specs.Abi.{Abi, answer, new_number}

-- Replies that change nothing.
abbrev pub is_still : Reply → Bool
is_still Done = false
is_still (Handle h) = false
is_still (Count n) = false
is_still _ = true

pub record Effects (w : World) (P : Call → Reply → World → Type 0) : Type 0 where
  pub stays : (c : Call) (r : Reply) → is_still r ≡ true → P c r w
  pub allocates : (p page count rights : ℕ) (old : Space) → running (object_at w.objects p) ≡ Some old → is_run page count ≡ true → rights ≤ ALL_RIGHTS → is_some (first_held old page count) ≡ false → len old + count ≤ MOST_PAGES
      → P (MemoryAllocate p page count rights) Done (with_objects w (with_pages w.objects p (with_run old page count rights)))
  pub frees : (p page count : ℕ) (old : Space) → running (object_at w.objects p) ≡ Some old → P (MemoryFree p page count) Done (with_objects w (with_pages w.objects p (without_run old page count)))
  pub protects : (p page count rights : ℕ) (old : Space) → running (object_at w.objects p) ≡ Some old → rights ≤ ALL_RIGHTS
      → P (MemoryProtect p page count rights) Done (with_objects w (with_pages w.objects p (protected old page count rights)))
  pub fills : (p address : ℕ) (bytes : List ℕ) (old : Space) → running (object_at w.objects p) ≡ Some old
      → P (MemoryWrite p address bytes) Done (with_objects w (with_pages w.objects p (with_memory old (with_bytes (memory_of old) address bytes))))
  pub makes_thread : (h p : ℕ) (context : Context) (space : Space) → running (object_at w.objects p) ≡ Some space → number_of is_thread w.objects.live < MOST_THREADS → P (ThreadCreate p context) (Handle h) (with_objects w (with_thread w.objects h p context))
  pub resumes : (t p : ℕ) (context : Context) → object_at w.objects t ≡ Some (Thread p context) → is_resting w.objects.lists t ≡ true → P (ThreadResume t) Done (with_objects w (with_lists w.objects (with_resumed w.objects.lists t)))
  pub ends_thread : (t p : ℕ) (context : Context) → object_at w.objects t ≡ Some (Thread p context) → P (ThreadExit t) Done (with_objects w (without_handles w.objects (λ k. k == t)))
  pub registers : (t p : ℕ) (old new : Context) → object_at w.objects t ≡ Some (Thread p old) → is_resting w.objects.lists t ≡ true → P (ThreadContext t new) Done (with_objects w (with_object w.objects t (Thread p new)))
  pub makes_event : (h : ℕ) → P EventCreate (Handle h) (with_objects w (with_object w.objects h (Event false)))
  pub opens : (h : ℕ) (name : StreamName) (create exclusive : Bool) → is_sound_name name ≡ true → P (StreamOpen name create exclusive) (Handle h) (with_objects w (with_object w.objects h (Stream name)))
  pub makes_file : (h : ℕ) (name : List ℕ) (exclusive : Bool) → is_name name ≡ true → file_of w.contents.files name ≡ None
      → P (StreamOpen (File name) true exclusive) (Handle h) (record { objects = with_object w.objects h (Stream (File name)); contents = with_files w.contents (with_file name [] w.contents.files) })
  pub takes : (s offset count : ℕ) → object_at w.objects s ≡ Some (Stream ConIn) → P (StreamRead s offset count) (Bytes (take count w.contents.input)) (with_contents w (record w.contents { input = drop count w.contents.input }))
  pub writes_file : (s offset : ℕ) (bytes name : List ℕ) → object_at w.objects s ≡ Some (Stream (File name)) → P (StreamWrite s offset bytes) (Count (length bytes)) (with_contents w (with_files w.contents (with_bytes_at name offset bytes w.contents.files)))
  pub writes_output : (s offset : ℕ) (bytes : List ℕ) → object_at w.objects s ≡ Some (Stream ConOut) → P (StreamWrite s offset bytes) (Count (length bytes)) (with_contents w (record w.contents { output = w.contents.output ++ bytes }))
  pub writes_errors : (s offset : ℕ) (bytes : List ℕ) → object_at w.objects s ≡ Some (Stream ConErr) → P (StreamWrite s offset bytes) (Count (length bytes)) (with_contents w (record w.contents { errors = w.contents.errors ++ bytes }))
  pub sets_length : (s size : ℕ) (name : List ℕ) → object_at w.objects s ≡ Some (Stream (File name)) → size ≤ LONGEST_FILE → P (StreamSetLength s size) Done (with_contents w (with_files w.contents (with_length name size w.contents.files)))
  pub deletes : (name bytes : List ℕ) → file_of w.contents.files name ≡ Some bytes → is_open w.objects name ≡ false → P (StreamDelete name) Done (with_contents w (with_files w.contents (without_file name w.contents.files)))
  pub renames : (from to bytes : List ℕ) → is_name to ≡ true → file_of w.contents.files from ≡ Some bytes → is_open w.objects from ≡ false → is_open w.objects to ≡ false → P (StreamRename from to) Done (with_contents w (with_files w.contents (with_renamed from to w.contents.files)))
  pub shares : (s h : ℕ) (x : Object) → shared_object (object_at w.objects s) ≡ Some x → P (Share s) (Handle h) (with_objects w (with_object w.objects h x))
  pub ends : (h : ℕ) (x : Object) → object_at w.objects h ≡ Some x → running (Some x) ≡ None → is_thread x ≡ false → P (Close h) Done (with_objects w (without_handles w.objects (λ k. k == h)))
  pub makes_process : (h : ℕ) → number_of is_process w.objects.live < MOST_PROCESSES → P ProcessCreate (Handle h) (with_objects w (with_object w.objects h (Process empty None)))
  pub exits : (p code : ℕ) (space : Space) → running (object_at w.objects p) ≡ Some space → P (ProcessExit p code) Done (with_objects w (with_object (without_threads w.objects p) p (Process empty (Some code))))
  pub configures : (settings : Settings) (positions : Positions) → is_acceptable settings ≡ true → w.objects.positions.turns ≡ 0 → P (Configure settings positions) Done (with_objects w (record w.objects { settings = settings; positions = positions }))

not_false : (b : Bool) → not b ≡ false → b ≡ true
not_false true e = refl
not_false false e = absurd (cc)

or_right : (a b : Bool) → (a || b) ≡ false → b ≡ false
or_right true b e = absurd (cc)
or_right false b e = e

or_left : (a b : Bool) → (a || b) ≡ false → a ≡ false
or_left true b e = absurd (cc)
or_left false b e = refl

and_left : (a b : Bool) → (a && b) ≡ true → a ≡ true
and_left true b e = refl
and_left false b e = absurd (cc)

and_right : (a b : Bool) → (a && b) ≡ true → b ≡ true
and_right true b e = e
and_right false b e = absurd (cc)

module _ (w : World) (P : Call → Reply → World → Type 0) (e : Effects w P) where
  abbrev At : Call → Answer → Type 0
  At c x = P c x.0 x.1

  abbrev On : Call → Reply × Objects → Type 0
  On c x = At c (on_objects w x)

  abbrev OnFiles : Call → Reply × Files → Type 0
  OnFiles c x = At c (on_contents w (on_files w.contents x))

  -- a choice between two answers, where what was tested is known
  chosen : {X : Type 0} (Q : X → Type 0) (b : Bool) (x y : X) → (b ≡ true → Q x) → (b ≡ false → Q y) → Q (cond b x y)
  chosen Q true x y p q = p refl
  chosen Q false x y p q = q refl

  allocate_at : (p page count rights : ℕ) (memory : Option Space) → running (object_at w.objects p) ≡ memory → On (MemoryAllocate p page count rights) (memory_allocate_row w.objects p page count rights memory)
  allocate_at p page count rights None is = e.stays _ BadHandle refl
  allocate_at p page count rights (Some s) is =
      let c = MemoryAllocate p page count rights in
      chosen (On c) (not (is_run page count && nat_le rights ALL_RIGHTS)) (BadAddress, w.objects) _ (λ _. e.stays c BadAddress refl) (λ good.
      chosen (On c) (is_some (first_held s page count)) (Exists, w.objects) _ (λ _. e.stays c Exists refl) (λ free.
      chosen (On c) (nat_lt MOST_PAGES (len s + count)) (NoRoom, w.objects) (Done, with_pages w.objects p (with_run s page count rights)) (λ _. e.stays c NoRoom refl) (λ room.
      let both = not_false (is_run page count && nat_le rights ALL_RIGHTS) good in
      e.allocates p page count rights s is (and_left (is_run page count) _ both) (leb-true rights ALL_RIGHTS (and_right (is_run page count) _ both)) free (ltb-false MOST_PAGES (len s + count) room))))

  free_at : (p page count : ℕ) (memory : Option Space) → running (object_at w.objects p) ≡ memory → On (MemoryFree p page count) (memory_free_row w.objects p page count memory)
  free_at p page count None is = e.stays _ BadHandle refl
  free_at p page count (Some s) is =
      let c = MemoryFree p page count in
      chosen (On c) (count == 0 || is_some (first_missing s page count)) (BadAddress, w.objects) (Done, with_pages w.objects p (without_run s page count)) (λ _. e.stays c BadAddress refl) (λ _. e.frees p page count s is)

  protect_at : (p page count rights : ℕ) (memory : Option Space) → running (object_at w.objects p) ≡ memory → On (MemoryProtect p page count rights) (memory_protect_row w.objects p page count rights memory)
  protect_at p page count rights None is = e.stays _ BadHandle refl
  protect_at p page count rights (Some s) is =
      let c = MemoryProtect p page count rights in
      chosen (On c) (count == 0 || (is_some (first_missing s page count) || nat_lt ALL_RIGHTS rights)) (BadAddress, w.objects) (Done, with_pages w.objects p (protected s page count rights)) (λ _. e.stays c BadAddress refl) (λ good.
      let right = or_right (is_some (first_missing s page count)) _ (or_right (count == 0) _ good) in
      e.protects p page count rights s is (ltb-false ALL_RIGHTS rights right))

  unless_at : (c : Call) (fault : Option AccessFault) (granted : Reply × Objects) → On c granted → On c (unless_fault w.objects fault granted)
  unless_at c None granted at = at
  unless_at c (Some Missing) granted at = e.stays c BadAddress refl
  unless_at c (Some Forbidden) granted at = e.stays c NoAccess refl

  read_at : (p address count : ℕ) (memory : Option Space) → On (MemoryRead p address count) (memory_read_row w.objects address count memory)
  read_at p address count None = e.stays _ BadHandle refl
  read_at p address count (Some s) =
      let c = MemoryRead p address count in
      let fault = first_fault (memory_of s) READ_RIGHT address count in
      let granted : Reply × Objects = (Bytes (bytes_from (memory_of s) address count), w.objects) in
      chosen (On c) (nat_lt MOST_BYTES count) (TooBig, w.objects) (unless_fault w.objects fault granted) (λ _. e.stays c TooBig refl) (λ _. unless_at c fault granted (e.stays c _ refl))

  write_at : (p address : ℕ) (bytes : List ℕ) (memory : Option Space) → running (object_at w.objects p) ≡ memory → On (MemoryWrite p address bytes) (memory_write_row w.objects p address bytes memory)
  write_at p address bytes None is = e.stays _ BadHandle refl
  write_at p address bytes (Some s) is =
      let c = MemoryWrite p address bytes in
      let fault = first_fault (memory_of s) WRITE_RIGHT address (length bytes) in
      let granted : Reply × Objects = (Done, with_pages w.objects p (with_memory s (with_bytes (memory_of s) address bytes))) in
      chosen (On c) (nat_lt MOST_BYTES (length bytes)) (TooBig, w.objects) (unless_fault w.objects fault granted) (λ _. e.stays c TooBig refl) (λ _. unless_at c fault granted (e.fills p address bytes s is))

  thread_at : (p : ℕ) (context : Context) (h : ℕ) (memory : Option Space) → running (object_at w.objects p) ≡ memory → On (ThreadCreate p context) (thread_create_row w.objects p context memory h)
  thread_at p context h None is = e.stays _ BadHandle refl
  thread_at p context h (Some s) is =
      let c = ThreadCreate p context in
      let count = number_of is_thread w.objects.live in
      chosen (On c) (nat_le MOST_THREADS count) (NoRoom, w.objects) (Handle h, with_thread w.objects h p context) (λ _. e.stays c NoRoom refl) (λ room. e.makes_thread h p context s is (leb-false MOST_THREADS count room))

  resume_at : (t : ℕ) (x : Option Object) → object_at w.objects t ≡ x → On (ThreadResume t) (thread_resume_row w.objects t x)
  resume_at t (Some (Thread p context)) is =
      let c = ThreadResume t in
      chosen (On c) (is_resting w.objects.lists t) (Done, with_lists w.objects (with_resumed w.objects.lists t)) (Busy, w.objects) (λ rests. e.resumes t p context is rests) (λ _. e.stays c Busy refl)
  resume_at t _ is = e.stays _ BadHandle refl

  thread_exit_at : (t : ℕ) (x : Option Object) → object_at w.objects t ≡ x → On (ThreadExit t) (thread_exit_row w.objects t x)
  thread_exit_at t (Some (Thread p context)) is = e.ends_thread t p context is
  thread_exit_at t _ is = e.stays _ BadHandle refl

  context_at : (t : ℕ) (context : Context) (x : Option Object) → object_at w.objects t ≡ x → On (ThreadContext t context) (thread_context_row w.objects t context x)
  context_at t context (Some (Thread p old)) is =
      let c = ThreadContext t context in
      chosen (On c) (is_resting w.objects.lists t) (Done, with_object w.objects t (Thread p context)) (Busy, w.objects) (λ rests. e.registers t p old context is rests) (λ _. e.stays c Busy refl)
  context_at t context _ is = e.stays _ BadHandle refl

  found_at : (name : List ℕ) (create exclusive : Bool) (h : ℕ) (found : Option (List ℕ)) → is_name name ≡ true → file_of w.contents.files name ≡ found →
      (let row = open_found w.contents.files name create exclusive found in At (StreamOpen (File name) create exclusive) (open_answer w (File name) h row.1 row.0))
  found_at name true exclusive h None good is = e.makes_file h name exclusive good is
  found_at name false exclusive h None good is = e.stays _ NotFound refl
  found_at name create exclusive h (Some bytes) good is =
      let c = StreamOpen (File name) create exclusive in
      let Q : Reply × Files → Type 0 = λ row. At c (open_answer w (File name) h row.1 row.0) in
      chosen Q (create && exclusive) (Exists, w.contents.files) (Done, w.contents.files) (λ _. e.stays c Exists refl) (λ _. e.opens h (File name) create exclusive good)

  not_empty : (n : ℕ) → (n == 0) ≡ false → nat_le 1 n ≡ true
  not_empty zero other = absurd (cc)
  not_empty (suc n) other = le-leb 1 (suc n) (omega arith)

  file_at : (name : List ℕ) (create exclusive : Bool) (h : ℕ) → At (StreamOpen (File name) create exclusive) (stream_open_row w (File name) create exclusive h)
  file_at name create exclusive h =
      let c = StreamOpen (File name) create exclusive in
      let Q : Reply × Files → Type 0 = λ row. At c (open_answer w (File name) h row.1 row.0) in
      let row = open_found w.contents.files name create exclusive (file_of w.contents.files name) in
      chosen Q (nat_lt LONGEST_NAME (length name)) (TooBig, w.contents.files) (cond (length name == 0) (NotFound, w.contents.files) row) (λ _. e.stays c TooBig refl) (λ short.
      chosen Q (length name == 0) (NotFound, w.contents.files) row (λ _. e.stays c NotFound refl) (λ some.
      found_at name create exclusive h (file_of w.contents.files name)
      (ap (λ b. b && nat_le (length name) LONGEST_NAME) (not_empty (length name) some) ∙ le-leb (length name) LONGEST_NAME (ltb-false LONGEST_NAME (length name) short)) refl))

  open_at : (name : StreamName) (create exclusive : Bool) (h : ℕ) → At (StreamOpen name create exclusive) (stream_open_row w name create exclusive h)
  open_at (File name) create exclusive h = file_at name create exclusive h
  open_at ConIn create exclusive h = e.opens h ConIn create exclusive refl
  open_at ConOut create exclusive h = e.opens h ConOut create exclusive refl
  open_at ConErr create exclusive h = e.opens h ConErr create exclusive refl

  read_from_at : (s offset count : ℕ) (name : StreamName) → object_at w.objects s ≡ Some (Stream name) → At (StreamRead s offset count) (on_contents w (read_row w.contents offset count name))
  read_from_at s offset count (File name) is = e.stays _ _ refl
  read_from_at s offset count ConIn is = e.takes s offset count is
  read_from_at s offset count ConOut is = e.stays _ NoAccess refl
  read_from_at s offset count ConErr is = e.stays _ NoAccess refl

  stream_read_at : (s offset count : ℕ) (r : Reply) (x : Option Object) → object_at w.objects s ≡ x → At (StreamRead s offset count) (stream_read_row w offset count r x)
  stream_read_at s offset count r (Some (Stream name)) is =
      let c = StreamRead s offset count in
      chosen (At c) (nat_lt MOST_BYTES count) (TooBig, w) (on_contents w (read_row w.contents offset count name)) (λ _. e.stays c TooBig refl) (λ _. read_from_at s offset count name is)
  stream_read_at s offset count r _ is = e.stays _ BadHandle refl

  write_to_at : (s offset : ℕ) (bytes : List ℕ) (name : StreamName) → object_at w.objects s ≡ Some (Stream name) → At (StreamWrite s offset bytes) (on_contents w (write_row w.contents offset bytes name))
  write_to_at s offset bytes (File name) is =
      let c = StreamWrite s offset bytes in
      let Q : Reply × Files → Type 0 = λ row. At c (row.0, with_contents w (with_files w.contents row.1)) in
      chosen Q (nat_lt LONGEST_FILE (offset + length bytes)) (TooBig, w.contents.files) (Count (length bytes), with_bytes_at name offset bytes w.contents.files) (λ _. e.stays c TooBig refl) (λ _. e.writes_file s offset bytes name is)
  write_to_at s offset bytes ConIn is = e.stays _ NoAccess refl
  write_to_at s offset bytes ConOut is = e.writes_output s offset bytes is
  write_to_at s offset bytes ConErr is = e.writes_errors s offset bytes is

  stream_write_at : (s offset : ℕ) (bytes : List ℕ) (r : Reply) (x : Option Object) → object_at w.objects s ≡ x → At (StreamWrite s offset bytes) (stream_write_row w offset bytes r x)
  stream_write_at s offset bytes r (Some (Stream name)) is =
      let c = StreamWrite s offset bytes in
      chosen (At c) (nat_lt MOST_BYTES (length bytes)) (TooBig, w) (on_contents w (write_row w.contents offset bytes name)) (λ _. e.stays c TooBig refl) (λ _. write_to_at s offset bytes name is)
  stream_write_at s offset bytes r _ is = e.stays _ BadHandle refl

  length_of_at : (s : ℕ) (name : StreamName) → At (StreamLength s) (on_contents w (length_row w.contents name))
  length_of_at s (File name) = e.stays _ _ refl
  length_of_at s ConIn = e.stays _ NoAccess refl
  length_of_at s ConOut = e.stays _ NoAccess refl
  length_of_at s ConErr = e.stays _ NoAccess refl

  length_at : (s : ℕ) (x : Option Object) → At (StreamLength s) (stream_length_row w x)
  length_at s (Some (Stream name)) = length_of_at s name
  length_at s _ = e.stays _ BadHandle refl

  set_length_of_at : (s size : ℕ) (name : StreamName) → object_at w.objects s ≡ Some (Stream name) → At (StreamSetLength s size) (on_contents w (set_length_row w.contents size name))
  set_length_of_at s size (File name) is =
      let c = StreamSetLength s size in
      chosen (OnFiles c) (nat_lt LONGEST_FILE size) (TooBig, w.contents.files) (Done, with_length name size w.contents.files) (λ _. e.stays c TooBig refl) (λ fits. e.sets_length s size name is (ltb-false LONGEST_FILE size fits))
  set_length_of_at s size ConIn is = e.stays _ NoAccess refl
  set_length_of_at s size ConOut is = e.stays _ NoAccess refl
  set_length_of_at s size ConErr is = e.stays _ NoAccess refl

  set_length_at : (s size : ℕ) (x : Option Object) → object_at w.objects s ≡ x → At (StreamSetLength s size) (stream_set_length_row w size x)
  set_length_at s size (Some (Stream name)) is = set_length_of_at s size name is
  set_length_at s size _ is = e.stays _ BadHandle refl

  -- a call on a name is refused by the name, or does what it does with a name of 1 to 80 bytes
  named_at : (c : Call) (name : List ℕ) (answer : Reply × Files) → (is_name name ≡ true → OnFiles c answer) → OnFiles c (named w.contents.files name answer)
  named_at c name answer at =
      chosen (OnFiles c) (nat_lt LONGEST_NAME (length name)) (TooBig, w.contents.files) (cond (length name == 0) (NotFound, w.contents.files) answer) (λ _. e.stays c TooBig refl) (λ short.
      chosen (OnFiles c) (length name == 0) (NotFound, w.contents.files) answer (λ _. e.stays c NotFound refl) (λ some.
      at (ap (λ b. b && nat_le (length name) LONGEST_NAME) (not_empty (length name) some) ∙ le-leb (length name) LONGEST_NAME (ltb-false LONGEST_NAME (length name) short))))

  deleted_at : (name : List ℕ) (found : Option (List ℕ)) → file_of w.contents.files name ≡ found → OnFiles (StreamDelete name) (delete_found w.contents.files name (is_open w.objects name) found)
  deleted_at name None is = e.stays _ NotFound refl
  deleted_at name (Some bytes) is =
      let c = StreamDelete name in
      chosen (OnFiles c) (is_open w.objects name) (Busy, w.contents.files) (Done, without_file name w.contents.files) (λ _. e.stays c Busy refl) (λ shut. e.deletes name bytes is shut)

  delete_at : (name : List ℕ) → At (StreamDelete name) (stream_delete_row w name)
  delete_at name = named_at (StreamDelete name) name _ (λ _. deleted_at name (file_of w.contents.files name) refl)

  renamed_at : (from to : List ℕ) (found : Option (List ℕ)) → is_name to ≡ true → file_of w.contents.files from ≡ found
      → OnFiles (StreamRename from to) (rename_found w.contents.files from to (is_open w.objects from || is_open w.objects to) found)
  renamed_at from to None good is = e.stays _ NotFound refl
  renamed_at from to (Some bytes) good is =
      let c = StreamRename from to in
      chosen (OnFiles c) (is_open w.objects from || is_open w.objects to) (Busy, w.contents.files) (Done, with_renamed from to w.contents.files) (λ _. e.stays c Busy refl) (λ shut.
      e.renames from to bytes good is (or_left (is_open w.objects from) _ shut) (or_right (is_open w.objects from) _ shut))

  rename_at : (from to : List ℕ) → At (StreamRename from to) (stream_rename_row w from to)
  rename_at from to = named_at (StreamRename from to) from _ (λ _. named_at (StreamRename from to) to _ (λ good. renamed_at from to (file_of w.contents.files from) good refl))

  share_at : (s h : ℕ) (x : Option Object) → shared_object (object_at w.objects s) ≡ x → On (Share s) (share_row w.objects x h)
  share_at s h None is = e.stays _ BadHandle refl
  share_at s h (Some x) is = e.shares s h x is

  close_at : (h : ℕ) (x : Option Object) → object_at w.objects h ≡ x → On (Close h) (close_row w.objects h x)
  close_at h None is = e.stays _ BadHandle refl
  close_at h (Some (Process memory None)) is = e.stays _ Busy refl
  close_at h (Some (Thread p context)) is = e.stays _ Busy refl
  close_at h (Some x) is = e.ends h x is refl refl

  process_at : (h : ℕ) → On ProcessCreate (process_create_row w.objects h)
  process_at h =
      let count = number_of is_process w.objects.live in
      chosen (On ProcessCreate) (nat_le MOST_PROCESSES count) (NoRoom, w.objects) (Handle h, with_object w.objects h (Process empty None)) (λ _. e.stays _ NoRoom refl) (λ room. e.makes_process h (leb-false MOST_PROCESSES count room))

  exit_at : (p code : ℕ) (memory : Option Space) → running (object_at w.objects p) ≡ memory → On (ProcessExit p code) (process_exit_row w.objects p code memory)
  exit_at p code None is = e.stays _ BadHandle refl
  exit_at p code (Some s) is = e.exits p code s is

  status_at : (p : ℕ) (x : Option Object) → On (ProcessStatus p) (process_status_row w.objects x)
  status_at p (Some (Process memory None)) = e.stays _ _ refl
  status_at p (Some (Process memory (Some code))) = e.stays _ _ refl
  status_at p _ = e.stays _ BadHandle refl

  configure_at : (settings : Settings) (positions : Positions) → On (Configure settings positions) (configure_row w.objects settings positions)
  configure_at settings positions =
      let c = Configure settings positions in
      let early = not (w.objects.positions.turns == 0) || nat_lt 0 (number_of is_running w.objects.live) in
      let done : Reply × Objects = (Done, record w.objects { settings = settings; positions = positions }) in
      chosen (On c) (not (is_acceptable settings)) (TooBig, w.objects) (cond early (Busy, w.objects) done) (λ _. e.stays c TooBig refl) (λ good.
      chosen (On c) early (Busy, w.objects) done (λ _. e.stays c Busy refl) (λ first.
      e.configures settings positions (not_false (is_acceptable settings) good) (eqb-true w.objects.positions.turns 0 (not_false (w.objects.positions.turns == 0) (or_left _ _ first)))))

  pub has-answer : (call : Call) (r : Reply) → At call (answer w call r)
  has-answer (MemoryAllocate p page count rights) r = allocate_at p page count rights _ refl
  has-answer (MemoryFree p page count) r = free_at p page count _ refl
  has-answer (MemoryProtect p page count rights) r = protect_at p page count rights _ refl
  has-answer (MemoryRead p address count) r = read_at p address count _
  has-answer (MemoryWrite p address bytes) r = write_at p address bytes _ refl
  has-answer (ThreadCreate p context) r = thread_at p context (new_number r) _ refl
  has-answer (ThreadResume t) r = resume_at t _ refl
  has-answer (ThreadExit t) r = thread_exit_at t _ refl
  has-answer (ThreadContext t context) r = context_at t context _ refl
  has-answer EventCreate r = e.makes_event (new_number r)
  has-answer (StreamOpen name create exclusive) r = open_at name create exclusive (new_number r)
  has-answer (StreamRead stream offset count) r = stream_read_at stream offset count r _ refl
  has-answer (StreamWrite stream offset bytes) r = stream_write_at stream offset bytes r _ refl
  has-answer (StreamLength stream) r = length_at stream _
  has-answer (StreamSetLength stream size) r = set_length_at stream size _ refl
  has-answer (StreamDelete name) r = delete_at name
  has-answer (StreamRename from to) r = rename_at from to
  has-answer (Share stream) r = share_at stream (new_number r) _ refl
  has-answer (Close h) r = close_at h _ refl
  has-answer ProcessCreate r = process_at (new_number r)
  has-answer (ProcessExit p code) r = exit_at p code _ refl
  has-answer (ProcessStatus p) r = status_at p _
  has-answer (Configure settings positions) r = configure_at settings positions
  has-answer AskPositions r = e.stays _ _ refl

  -- What each effect has, an answered call has.
  pub has-Abi : (call : Call) (r : Reply) (w' : World) → Abi w call r w' → P call r w'
  has-Abi call r w' abi = subst (λ (x : Answer). At call x) abi.row (has-answer call r)
