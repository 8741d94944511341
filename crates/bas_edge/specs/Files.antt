-- Files by name, and what writing does to the bytes of one.
use Rattle.std.specs.Prelude.{ℕ, ◌+◌, ◌-◌, ◌<◌, ◌≤◌, ◌==◌, if◌then◌else◌, List, [], ◌++◌, length, take, drop, replicate, reverse, Option, option_map, unwrap_or, IsSome, IsNone, IsSomeAnd, map, Vec, String, string_bytes}
use Rattle.std.specs.Ordering.{nat_cmp}
use Rattle.std.specs.BTreeMap.{BTreeMap}
use Rattle.std.specs.Coded.{Coded, coded_list, coded_ℕ}
use Rattle.std.specs.Cmp.Lexicographic.{slice_cmp}
use Rattle.std.specs.FinMap.{FinMap, code, get, insert, remove, from_entries}

-- Files by name, a name being its bytes.
abbrev pub Files : Type 0
Files = FinMap (slice_cmp nat_cmp) (List ℕ)

-- They are stored as the list of their entries.
abbrev pub files_code : Coded Files
files_code = code (coded_list coded_ℕ) (coded_list coded_ℕ)

-- The bytes of the file that has the name, if one has it.
abbrev pub file_of : Files → List ℕ → Option (List ℕ)
file_of files name = get files name

-- The same, and no bytes where no file has the name.
abbrev pub file_bytes : Files → List ℕ → List ℕ
file_bytes files name = unwrap_or (file_of files name) []

-- How long the file is, if there is one.
abbrev pub file_length : Files → List ℕ → Option ℕ
file_length files name = option_map length (file_of files name)

-- Some file has the name.
abbrev pub HasFile : Files → List ℕ → Type 0
HasFile files name = IsSome (file_of files name)

-- No file has the name.
abbrev pub HasNoFile : Files → List ℕ → Type 0
HasNoFile files name = IsNone (file_of files name)

-- Some file has the name, unless there are no bytes to write into it.
abbrev pub TakesBytes : Files → List ℕ → List ℕ → Type 0
TakesBytes files name bytes = 0 < length bytes → HasFile files name

-- Some file has the name, and these `count` bytes from `at` on lie in it.
abbrev pub HasRange : Files → List ℕ → ℕ → ℕ → Type 0
HasRange files name at count = IsSomeAnd (file_of files name) (λ bytes. at + count ≤ length bytes)

-- The text with these bytes from `at` on, a gap past the old end filled with zeros. No bytes change
-- nothing (POSIX `pwrite`).
abbrev pub overwritten : List ℕ → ℕ → List ℕ → List ℕ
overwritten old at bytes =
    if length bytes == 0 then old
    else (take at old ++ replicate (at - length old) 0 ++ bytes ++ drop (at + length bytes) old)

-- The text cut to this length, or filled up to it with zeros (POSIX `ftruncate`).
abbrev pub resized : List ℕ → ℕ → List ℕ
resized old size = take size old ++ replicate (size - length old) 0

-- The files with this one put under the name, in place of one that had it.
abbrev pub with_file : List ℕ → List ℕ → Files → Files
with_file name bytes files = insert files name bytes

-- The files with these bytes written into the file from `at` on. No bytes change no file, and make
-- none.
abbrev pub with_bytes_at : List ℕ → ℕ → List ℕ → Files → Files
with_bytes_at name at bytes files =
    if length bytes == 0 then files
    else insert files name (overwritten (file_bytes files name) at bytes)

-- The files with these bytes behind those of the file, which is made where it isn't there.
abbrev pub with_bytes_behind : List ℕ → List ℕ → Files → Files
with_bytes_behind name bytes files = insert files name (file_bytes files name ++ bytes)

-- The files with the file cut or filled up to this length.
abbrev pub with_length : List ℕ → ℕ → Files → Files
with_length name size files = insert files name (resized (file_bytes files name) size)

-- The files without the one that has the name.
abbrev pub without_file : List ℕ → Files → Files
without_file name files = remove files name

-- The files with the first name's file under the second name, in place of one that had it (POSIX
-- `rename`).
abbrev pub with_renamed : List ℕ → List ℕ → Files → Files
with_renamed from to files = insert (remove files from) to (file_bytes files from)

-- The files of a list of names and bytes. Of a name given twice the last entry counts.
abbrev pub files_of : List (List ℕ × List ℕ) → Files
files_of entries = from_entries (reverse entries)

-- A name and a text as bytes.
abbrev pub entry_of : {A : Type 0} → Vec ℕ A × Vec ℕ A → List ℕ × List ℕ
entry_of entry = (entry.0.items, entry.1.items)

-- The files that a map from names to texts holds.
abbrev pub files_in : {A : Type 0} → BTreeMap (Vec ℕ A) (Vec ℕ A) → Files
files_in {A} tree = from_entries (map entry_of tree.entries)

-- A name that is a text, and a text, as bytes.
abbrev pub text_entry_of : {A : Type 0} → String A × Vec ℕ A → List ℕ × List ℕ
text_entry_of entry = (string_bytes entry.0, entry.1.items)
