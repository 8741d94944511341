-- The definitions on open files computed on worked examples.
use Rattle.std.specs.Ordering.{nat_cmp}
use Rattle.std.specs.FinMap.{get, insert}
use Rattle.std.proofs.Common.{◌≡◌, ℕ, ◌+◌, ◌-◌, ◌^◌, Bool, true, false, cond, List, [], ◌∷◌, ◌++◌, length, take, drop, replicate, unwrap_or, refl, ap, ◌∙◌}
use Rattle.std.specs.declared.option.Option.TheVariants.{None, Some}
use Rattle.rv_core.specs.declared.context.Context.{Context}
use Rattle.guest_space.specs.Access.{Forbidden}
use Rattle.bas_edge.specs.Files.{Files, file_bytes, overwritten, resized, with_bytes_at, with_length}
use Rattle.bas_edge.proofs.FilesIn.{same_name-refl, get-insert_name}
use Rattle.bas_names.specs.declared.StreamName.{StreamName}
use Rattle.bas_names.specs.declared.StreamName.TheVariants.{File, ConIn, ConOut}
use Rattle.bas_items.proofs.NumberMaps.{get-insert-same}
use Rattle.mono_model.specs.Machine.{Mono, Process, Description, process_at}
use Rattle.mono_model.specs.Descriptors.{named_by, descriptors_in, with_position_in}
use Rattle.mono_model.specs.Calls.{Caller, Served, WRITE, silently, finished, described_by, described_in, advanced, positioned, positioned_by, write_at, write_bytes}
use Rattle.mono_model.specs.FileCalls.{FTRUNCATE, LSEEK, READ, FSTAT, described, moved_over, after_store, stored, stored_unless, readable, read_bytes, read_of, read, sought, seek_to, lseek_of, lseek, status, fstat_of, fstat, ftruncate_of, ftruncate}

-- ---- positions that an offset leads to: from the begin, over the end, and back

at_begin : sought 0 0 ≡ Some 0
at_begin = refl

past_end : sought 3 5 ≡ Some 8
past_end = refl

back : sought 3 (2 ^ 64 - 1) ≡ Some 2
back = refl

back_to_begin : sought 3 (2 ^ 64 - 3) ≡ Some 0
back_to_begin = refl

-- -1 leads before the begin, and so does -4 from 3
before_begin : sought 0 (2 ^ 64 - 1) ≡ None
before_begin = refl

too_far_back : sought 3 (2 ^ 64 - 4) ≡ None
too_far_back = refl

-- 2^63 - 1 is the greatest position; one more is the least negative offset
furthest : sought 0 (2 ^ 63 - 1) ≡ Some (2 ^ 63 - 1)
furthest = refl

too_far : sought 1 (2 ^ 63 - 1) ≡ None
too_far = refl

least : sought 0 (2 ^ 63) ≡ None
least = refl

-- a position beyond that leads back to one, and nowhere further
back_from_last : sought (2 ^ 64 - 1) (2 ^ 63) ≡ Some (2 ^ 63 - 1)
back_from_last = refl

still_too_far : sought (2 ^ 64 - 1) (2 ^ 63 + 1) ≡ None
still_too_far = refl

-- a position moves to 2^64 - 1 at most
moves_over : advanced 2 3 ≡ 5
moves_over = refl

moves_no_further : advanced (2 ^ 64 - 2) 3 ≡ 2 ^ 64 - 1
moves_no_further = refl

-- ---- a status

status_size : length (status true 3) ≡ 128
status_size = refl

before_mode : take 16 (status true 3) ≡ replicate 16 0
before_mode = refl

mode_of_file : take 4 (drop 16 (status true 3)) ≡ 0xA4 ∷ 0x81 ∷ 0 ∷ 0 ∷ []
mode_of_file = refl

between : take 28 (drop 20 (status true 3)) ≡ replicate 28 0
between = refl

size_of_file : take 8 (drop 48 (status true 3)) ≡ 3 ∷ 0 ∷ 0 ∷ 0 ∷ 0 ∷ 0 ∷ 0 ∷ 0 ∷ []
size_of_file = refl

behind_size : drop 56 (status true 3) ≡ replicate 72 0
behind_size = refl

-- a size of several bytes stands from its low byte on
longest_file : take 8 (drop 48 (status true 0x1000000)) ≡ 0 ∷ 0 ∷ 0 ∷ 1 ∷ 0 ∷ 0 ∷ 0 ∷ 0 ∷ []
longest_file = refl

-- the console is a terminal without a size
mode_of_console : take 4 (drop 16 (status false 0)) ≡ 0x90 ∷ 0x21 ∷ 0 ∷ 0 ∷ []
mode_of_console = refl

no_size : drop 20 (status false 0) ≡ replicate 108 0
no_size = refl

-- ---- bytes of a file

-- over its end, and past it, where zeros fill the gap; no bytes change nothing
over_end : overwritten (97 ∷ 98 ∷ 99 ∷ []) 2 (100 ∷ 101 ∷ []) ≡ 97 ∷ 98 ∷ 100 ∷ 101 ∷ []
over_end = refl

behind_gap : overwritten (97 ∷ 98 ∷ 99 ∷ []) 5 (100 ∷ 101 ∷ []) ≡ 97 ∷ 98 ∷ 99 ∷ 0 ∷ 0 ∷ 100 ∷ 101 ∷ []
behind_gap = refl

within : overwritten (97 ∷ 98 ∷ 99 ∷ []) 1 (100 ∷ []) ≡ 97 ∷ 100 ∷ 99 ∷ []
within = refl

of_nothing : overwritten (97 ∷ 98 ∷ 99 ∷ []) 5 [] ≡ 97 ∷ 98 ∷ 99 ∷ []
of_nothing = refl

shorter : resized (97 ∷ 98 ∷ 99 ∷ []) 2 ≡ 97 ∷ 98 ∷ []
shorter = refl

longer : resized (97 ∷ 98 ∷ 99 ∷ []) 5 ≡ 97 ∷ 98 ∷ 99 ∷ 0 ∷ 0 ∷ []
longer = refl

-- what was put under a name is found there
found : (files : Files) (name bytes : List ℕ) → file_bytes (insert files name bytes) name ≡ bytes
found files name bytes =
    let there = get-insert_name files name bytes name ∙ ap (λ b. cond b (Some bytes) (get files name)) (same_name-refl name) in
    ap (λ x. unwrap_or x []) there

-- ---- calls

-- a0 to a2 and a7 at a call; all other registers are 0
arguments : ℕ → ℕ → ℕ → ℕ → Context
arguments number a b c = record { pc = 0; x = replicate 9 0 ++ a ∷ b ∷ c ∷ replicate 4 0 ++ number ∷ replicate 14 0 }

-- Process 5 has descriptor 3, which names description 7. The name's file has the bytes `abc`.
module _ (m : Mono) (process : Process) (home : process_at m 5 ≡ Some process)
    (names : get {R = nat_cmp} process.descriptors 3 ≡ Some 7) (name : List ℕ) (bytes_are : file_bytes m.files name ≡ 97 ∷ 98 ∷ 99 ∷ []) where
  asks : ℕ → ℕ → ℕ → Caller
  asks number b c = record { thread = 1; process = 5; context = arguments number 3 b c }

  -- the description with an access, at a position
  abbrev open_on : StreamName → ℕ → Bool → ℕ → Description
  open_on stream access append position = record { stream = stream; access = access; append = append; position = position }

  abbrev file_at : ℕ → Description
  file_at position = open_on (File name) 3 false position

  abbrev Opens : Description → Type 0
  Opens d = get {R = nat_cmp} m.descriptions 7 ≡ Some d

  opened : (d : Description) (number b c : ℕ) → Opens d → described m (asks number b c) ≡ Some d
  unfolding asks arguments
  opened d number b c is = ap (described_in m 3) home ∙ ap (described_by m) names ∙ is

  named : named_by m 5 3 ≡ Some 7
  named = ap (λ x. get {R = nat_cmp} (descriptors_in x) 3) home ∙ names

  -- the description at another position
  abbrev placed : Mono → Description → ℕ → Mono
  placed m d position = record m { descriptions = insert m.descriptions 7 (record d { position = position }) }

  put_at : (d : Description) (number b c position : ℕ) → Opens d → positioned m (asks number b c) position ≡ placed m d position
  unfolding asks arguments
  put_at d number b c position is = ap (positioned_by m position) named ∙ ap (with_position_in m 7 position) is

  is_there : (d : Description) (position : ℕ) → get {R = nat_cmp} (placed m d position).descriptions 7 ≡ Some (record d { position = position })
  is_there d position = get-insert-same m.descriptions 7 (record d { position = position })

  -- a call on it: lseek by an offset and a whence, fstat to 4096, ftruncate to a length, a write, a read to 4096
  abbrev seeking : ℕ → ℕ → Caller
  seeking offset whence = asks LSEEK offset whence

  abbrev measuring : Caller
  measuring = asks FSTAT 4096 0

  abbrev cutting : ℕ → Caller
  cutting size = asks FTRUNCATE size 0

  abbrev writing : Caller
  writing = asks WRITE 0 0

  abbrev reading : ℕ → Caller
  reading count = asks READ 4096 count

  -- ---- lseek

  seeks : (d : Description) (b c : ℕ) → Opens d → lseek m (seeking b c) ≡ lseek_of m (seeking b c) (Some d)
  seeks d b c is = ap (lseek_of m (seeking b c)) (opened d LSEEK b c is)

  sets : (d : Description) (b c at : ℕ) → Opens d → seek_to m (seeking b c) (Some at) ≡ finished (placed m d at) (seeking b c) at
  sets d b c at is = ap (λ n. finished n (seeking b c) at) (put_at d LSEEK b c at is)

  -- from the begin, from the position, from the end
  seek_begin : Opens (file_at 2) → lseek m (seeking 1 0) ≡ finished (placed m (file_at 2) 1) (seeking 1 0) 1
  unfolding asks arguments
  seek_begin is = seeks (file_at 2) 1 0 is ∙ sets (file_at 2) 1 0 1 is

  seek_on : Opens (file_at 2) → lseek m (seeking 4 1) ≡ finished (placed m (file_at 2) 6) (seeking 4 1) 6
  unfolding asks arguments
  seek_on is = seeks (file_at 2) 4 1 is ∙ sets (file_at 2) 4 1 6 is

  seek_end : Opens (file_at 0) → lseek m (seeking (2 ^ 64 - 1) 2) ≡ finished (placed m (file_at 0) 2) (seeking (2 ^ 64 - 1) 2) 2
  unfolding asks arguments
  seek_end is =
      seeks (file_at 0) (2 ^ 64 - 1) 2 is
      ∙ ap (λ (bytes : List ℕ). seek_to m (seeking (2 ^ 64 - 1) 2) (sought (length bytes) (2 ^ 64 - 1))) bytes_are
      ∙ sets (file_at 0) (2 ^ 64 - 1) 2 2 is

  -- -22: before the begin, further than 2^63 - 1, and no such whence
  seek_before : Opens (file_at 0) → lseek m (seeking (2 ^ 64 - 1) 1) ≡ finished m (seeking (2 ^ 64 - 1) 1) 18446744073709551594
  unfolding asks arguments
  seek_before is = seeks (file_at 0) (2 ^ 64 - 1) 1 is

  seek_past : Opens (file_at 1) → lseek m (seeking (2 ^ 63 - 1) 1) ≡ finished m (seeking (2 ^ 63 - 1) 1) 18446744073709551594
  unfolding asks arguments
  seek_past is = seeks (file_at 1) (2 ^ 63 - 1) 1 is

  no_whence : Opens (file_at 0) → lseek m (seeking 0 3) ≡ finished m (seeking 0 3) 18446744073709551594
  unfolding asks arguments
  no_whence is = seeks (file_at 0) 0 3 is

  -- the console has no positions: -29
  seek_console : Opens (open_on ConIn 1 false 0) → lseek m (seeking 0 0) ≡ finished m (seeking 0 0) 18446744073709551587
  seek_console is = seeks (open_on ConIn 1 false 0) 0 0 is

  -- no descriptor: -9
  abbrev other : Caller
  other = record { thread = 1; process = 5; context = arguments LSEEK 4 0 0 }

  seek_closed : get {R = nat_cmp} process.descriptors 4 ≡ None → lseek m other ≡ finished m other 18446744073709551607
  unfolding arguments
  seek_closed none = ap (λ x. lseek_of m other (described_in m 4 x)) home ∙ ap (λ x. lseek_of m other (described_by m x)) none

  -- ---- fstat

  file_status : (position : ℕ) → Opens (file_at position) → fstat m measuring ≡ stored m measuring 4096 (status true 3) 0
  unfolding asks arguments
  file_status position is =
      ap (fstat_of m measuring) (opened (file_at position) FSTAT 4096 0 is)
      ∙ ap (λ (bytes : List ℕ). stored m measuring 4096 (status true (length bytes)) 0) bytes_are

  console_status : Opens (open_on ConOut 2 false 0) → fstat m measuring ≡ stored m measuring 4096 (status false 0) 0
  unfolding asks arguments
  console_status is = ap (fstat_of m measuring) (opened (open_on ConOut 2 false 0) FSTAT 4096 0 is)

  -- ---- ftruncate

  cuts : (d : Description) (b : ℕ) → Opens d → ftruncate m (cutting b) ≡ ftruncate_of m (cutting b) (Some d)
  cuts d b is = ap (ftruncate_of m (cutting b)) (opened d FTRUNCATE b 0 is)

  abbrev cut_to : ℕ → Mono
  cut_to size = record m { files = with_length name size m.files }

  cut_shorter : Opens (file_at 3) → ftruncate m (cutting 2) ≡ finished (cut_to 2) (cutting 2) 0
  unfolding asks arguments
  cut_shorter is = cuts (file_at 3) 2 is

  shorter_file : file_bytes (cut_to 2).files name ≡ 97 ∷ 98 ∷ []
  shorter_file = found m.files name _ ∙ ap (λ bytes. resized bytes 2) bytes_are

  longer_file : file_bytes (cut_to 5).files name ≡ 97 ∷ 98 ∷ 99 ∷ 0 ∷ 0 ∷ []
  longer_file = found m.files name _ ∙ ap (λ bytes. resized bytes 5) bytes_are

  -- 16 MiB is the longest, and one byte more is -27, which leaves the file
  cut_longest : Opens (file_at 0) → ftruncate m (cutting 16777216) ≡ finished (cut_to 16777216) (cutting 16777216) 0
  unfolding asks arguments
  cut_longest is = cuts (file_at 0) 16777216 is

  cut_too_long : Opens (file_at 0) → ftruncate m (cutting 16777217) ≡ finished m (cutting 16777217) 18446744073709551589
  unfolding asks arguments
  cut_too_long is = cuts (file_at 0) 16777217 is

  -- -22: a negative length, a file that can't be written, and the console
  cut_negative : Opens (file_at 0) → ftruncate m (cutting (2 ^ 63)) ≡ finished m (cutting (2 ^ 63)) 18446744073709551594
  unfolding asks arguments
  cut_negative is = cuts (file_at 0) (2 ^ 63) is

  cut_unwritable : Opens (open_on (File name) 1 false 0) → ftruncate m (cutting 0) ≡ finished m (cutting 0) 18446744073709551594
  cut_unwritable is = cuts (open_on (File name) 1 false 0) 0 is

  cut_console : Opens (open_on ConOut 2 false 0) → ftruncate m (cutting 0) ≡ finished m (cutting 0) 18446744073709551594
  unfolding asks arguments
  cut_console is = cuts (open_on ConOut 2 false 0) 0 is

  -- ---- a write into the file

  abbrev filled : ℕ → List ℕ → Mono
  filled offset bytes = record m { files = with_bytes_at name offset bytes m.files }

  -- the bytes stand there, the description is at a position, and the result is their number
  abbrev written : Description → ℕ → ℕ → List ℕ → Served
  written d offset position bytes = silently (finished (placed (filled offset bytes) d position) writing (length bytes))

  writes : (d : Description) (offset position : ℕ) (bytes : List ℕ) → Opens d
      → silently (finished (positioned (filled offset bytes) writing position) writing (length bytes)) ≡ written d offset position bytes
  unfolding asks arguments
  writes d offset position bytes is =
      ap (λ id. silently (finished (positioned_by (filled offset bytes) position id) writing (length bytes))) named
      ∙ ap (λ x. silently (finished (with_position_in (filled offset bytes) 7 position x) writing (length bytes))) is

  -- two bytes at 5, past its end: zeros fill the gap, and the position is behind them
  write_past : Opens (file_at 5) → write_bytes m writing (file_at 5) (100 ∷ 101 ∷ []) ≡ written (file_at 5) 5 7 (100 ∷ 101 ∷ [])
  write_past is = writes (file_at 5) 5 7 (100 ∷ 101 ∷ []) is

  gap_filled : file_bytes (filled 5 (100 ∷ 101 ∷ [])).files name ≡ 97 ∷ 98 ∷ 99 ∷ 0 ∷ 0 ∷ 100 ∷ 101 ∷ []
  gap_filled = found m.files name _ ∙ ap (λ bytes. overwritten bytes 5 (100 ∷ 101 ∷ [])) bytes_are

  -- a description that appends writes at the end, wherever it stands
  abbrev appends : Description
  appends = open_on (File name) 2 true 1

  write_end : Opens appends → write_bytes m writing appends (100 ∷ []) ≡ written appends 3 4 (100 ∷ [])
  write_end is =
      ap (λ (bytes : List ℕ). write_at m writing (length bytes) (100 ∷ []) (File name)) bytes_are
      ∙ writes appends 3 4 (100 ∷ []) is

  end_written : file_bytes (filled 3 (100 ∷ [])).files name ≡ 97 ∷ 98 ∷ 99 ∷ 100 ∷ []
  end_written = found m.files name _ ∙ ap (λ bytes. overwritten bytes 3 (100 ∷ [])) bytes_are

  -- up to 16 MiB, and no byte further: -27
  abbrev last : Description
  last = file_at 16777215

  write_last : Opens last → write_bytes m writing last (100 ∷ []) ≡ written last 16777215 16777216 (100 ∷ [])
  write_last is = writes last 16777215 16777216 (100 ∷ []) is

  write_too_far : write_bytes m writing last (100 ∷ 101 ∷ []) ≡ silently (finished m writing 18446744073709551589)
  write_too_far = refl

  -- ---- a read of the file

  reads : (d : Description) (c : ℕ) → Opens d → read m (reading c) ≡ read_of m (reading c) (readable (Some d))
  reads d c is = ap (λ x. read_of m (reading c) (readable x)) (opened d READ 4096 c is)

  -- what there is from the position on
  read_rest : Opens (file_at 1) → read m (reading 10) ≡ stored m (reading 10) 4096 (98 ∷ 99 ∷ []) 2
  unfolding asks arguments
  read_rest is = reads (file_at 1) 10 is ∙ ap (λ (bytes : List ℕ). read_bytes m (reading 10) (take 10 (drop 1 bytes))) bytes_are

  read_some : Opens (file_at 0) → read m (reading 2) ≡ stored m (reading 2) 4096 (97 ∷ 98 ∷ []) 2
  unfolding asks arguments
  read_some is = reads (file_at 0) 2 is ∙ ap (λ (bytes : List ℕ). read_bytes m (reading 2) (take 2 (drop 0 bytes))) bytes_are

  -- at the end and past it there is nothing
  read_end : Opens (file_at 3) → read m (reading 10) ≡ finished m (reading 10) 0
  unfolding asks arguments
  read_end is = reads (file_at 3) 10 is ∙ ap (λ (bytes : List ℕ). read_bytes m (reading 10) (take 10 (drop 3 bytes))) bytes_are

  read_past : Opens (file_at 100) → read m (reading 10) ≡ finished m (reading 10) 0
  unfolding asks arguments
  read_past is = reads (file_at 100) 10 is ∙ ap (λ (bytes : List ℕ). read_bytes m (reading 10) (take 10 (drop 100 bytes))) bytes_are

  read_none : Opens (file_at 0) → read m (reading 0) ≡ finished m (reading 0) 0
  unfolding asks arguments
  read_none is = reads (file_at 0) 0 is

  -- where it isn't open for reading: -9
  read_unreadable : Opens (open_on (File name) 2 false 0) → read m (reading 10) ≡ finished m (reading 10) 18446744073709551607
  read_unreadable is = reads (open_on (File name) 2 false 0) 10 is

  -- the bytes lie in memory, and the file's position moves over them; fstat moves none
  read_moves : Opens (file_at 1) → after_store m (reading 10) 2 ≡ placed m (file_at 1) 3
  unfolding asks arguments
  read_moves is = ap (moved_over m (reading 10) 2) (opened (file_at 1) READ 4096 10 is) ∙ put_at (file_at 1) READ 4096 10 3 is

  status_moves_none : after_store m measuring 128 ≡ m
  unfolding asks arguments
  status_moves_none = refl

  -- where they can't: -14, and the position stays
  read_faults : stored_unless m (reading 10) 4096 (98 ∷ 99 ∷ []) 2 (Some Forbidden) ≡ finished m (reading 10) 18446744073709551602
  read_faults = refl

  -- ---- a read of the console, whose input gives its bytes once

  abbrev input : Description
  input = open_on ConIn 1 false 0

  abbrev after_input : List ℕ → Mono
  after_input bytes = read_bytes (record m { input = drop 2 bytes }) (reading 2) (take 2 bytes)

  read_input : m.input ≡ 104 ∷ 105 ∷ 10 ∷ [] → Opens input
      → read m (reading 2) ≡ stored (record m { input = 10 ∷ [] }) (reading 2) 4096 (104 ∷ 105 ∷ []) 2
  unfolding asks arguments
  read_input line is = reads input 2 is ∙ ap after_input line

  input_ends : m.input ≡ [] → Opens input → read m (reading 2) ≡ finished (record m { input = [] }) (reading 2) 0
  unfolding asks arguments
  input_ends none is = reads input 2 is ∙ ap after_input none

  input_stays : Opens input → after_store m (reading 2) 2 ≡ m
  unfolding asks arguments
  input_stays is = ap (moved_over m (reading 2) 2) (opened input READ 4096 2 is)
