-- What a copy leaves. The user's files and the host's are compared where both are told.
use Rattle.std.specs.Prelude.{◌≡◌, ◌⊎◌, ℕ, ◌<◌, ◌≤◌, List, length}
use Rattle.std.specs.Option.{ForSome, option_map}
use Rattle.std.specs.declared.option.Option.{Option}
use Rattle.std.specs.declared.option.Option.TheVariants.{None, Some}
use Rattle.bas_edge.specs.Files.{Files, file_of, with_file}
use Rattle.abi_calls.specs.declared.limits.TheConstants.{LONGEST_FILE}
use Rattle.abi_calls.specs.World.{Told}
use Rattle.file_commands.specs.declared.copies.Copied.{Copied}
use Rattle.file_commands.specs.declared.copies.Copied.TheVariants.{Bytes, Absent, Large}
use Rattle.file_commands.specs.Changes.{changed, HasPart}

-- The file has these bytes, where files are told.
abbrev pub Holds : Option Files → List ℕ → List ℕ → Type 0
Holds told name bytes = ForSome told (λ files. file_of files name ≡ Some bytes)

abbrev pub HasNone : Option Files → List ℕ → Type 0
HasNone told name = ForSome told (λ files. file_of files name ≡ None)

-- The file is there, and longer than the limit.
pub record IsLonger (limit : ℕ) (name : List ℕ) (files : Files) : Type 0 where
  pub bytes : List ℕ
  pub there : file_of files name ≡ Some bytes
  pub long : limit < length bytes

-- The host's file `name` has the bytes of the user's file `file`, so many, and all else of the host
-- is as before.
pub record Puts (file name : List ℕ) (count : ℕ) (shelf : Option Files) (told told' : Told)
    : Type 0 where
  pub bytes : List ℕ
  pub source : Holds shelf file bytes
  pub short : length bytes ≤ LONGEST_FILE
  pub counted : count ≡ length bytes
  pub after : told' ≡ changed (with_file name bytes) told

-- What `put` says of the user's files and of what the host tells, before and after.
abbrev pub SaysOfPut : Copied → List ℕ → List ℕ → Option Files → Told → Told → Type 0
SaysOfPut (Bytes count) file name shelf told told' = Puts file name count shelf told told'
SaysOfPut Absent file name shelf told told' = HasNone shelf file × (told' ≡ told)
SaysOfPut Large file name shelf told told' =
    ForSome shelf (IsLonger LONGEST_FILE file) × (told' ≡ told)

-- The host's file `name` has a first part of the user's file `file`.
pub record PutsPart (file name : List ℕ) (shelf : Option Files) (told told' : Told) : Type 0 where
  pub bytes : List ℕ
  pub source : Holds shelf file bytes
  pub part : HasPart name bytes told told'

-- What a `put` leaves that was given up.
abbrev pub LeavesPut : List ℕ → List ℕ → Option Files → Told → Told → Type 0
LeavesPut file name shelf told told' = (told' ≡ told) ⊎ PutsPart file name shelf told told'

-- The user's file `file` has the bytes of the host's file `name`, so many, and the user's other
-- files are as before.
pub record Gets (name file : List ℕ) (count : ℕ) (told : Told) (shelf shelf' : Option Files)
    : Type 0 where
  pub bytes : List ℕ
  pub source : Holds told.files name bytes
  pub counted : count ≡ length bytes
  pub after : shelf' ≡ option_map (with_file file bytes) shelf

-- What `get` says of what the host tells and of the user's files, before and after. No file of the
-- host's is too large for it.
abbrev pub SaysOfGet : Copied → List ℕ → List ℕ → Told → Option Files → Option Files → Type 0
SaysOfGet (Bytes count) name file told shelf shelf' = Gets name file count told shelf shelf'
SaysOfGet Absent name file told shelf shelf' = HasNone told.files name × (shelf' ≡ shelf)
SaysOfGet Large name file told shelf shelf' = ⊥
