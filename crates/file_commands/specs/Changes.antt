-- What calls on a file of the host's do to what the host tells.
use Rattle.std.specs.Prelude.{◌≡◌, ◌⊎◌, ℕ, true, false, List, ◌++◌}
use Rattle.std.specs.Option.{option_map}
use Rattle.std.specs.declared.option.Option.TheVariants.{Some}
use Rattle.bas_edge.specs.Files.{Files, file_of, with_file}
use Rattle.bas_names.specs.declared.StreamName.TheVariants.{File}
use Rattle.abi_calls.specs.declared.object.Object.TheVariants.{Stream}
use Rattle.abi_calls.specs.Objects.{Objects, object_at}
use Rattle.abi_calls.specs.Streams.{file_open_row}
use Rattle.abi_calls.specs.World.{Told}

-- The handle is open on the file of the name.
abbrev pub IsOn : List ℕ → Objects → ℕ → Type 0
IsOn name o h = object_at o h ≡ Some (Stream (File name))

-- The files are changed, where they are told, and all else is as before.
abbrev pub changed : (Files → Files) → Told → Told
changed change told = record told { files = option_map change told.files }

-- Nothing was done, or all of the change.
abbrev pub IsOrIsNot : (Files → Files) → Told → Told → Type 0
IsOrIsNot change told told' = (told' ≡ told) ⊎ (told' ≡ changed change told)

-- The file is there, and without bytes where it was made.
abbrev pub opened : List ℕ → Files → Files
opened name files = (file_open_row files name true false).1

-- The file has a first part of these bytes; all else is as before.
pub record HasPart (name bytes : List ℕ) (told told' : Told) : Type 0 where
  pub part : List ℕ
  pub rest : List ℕ
  pub whole : bytes ≡ part ++ rest
  pub after : told' ≡ changed (with_file name part) told

-- A file that was to get these bytes is as before, or has a first part of them.
abbrev pub IsPartly : List ℕ → List ℕ → Told → Told → Type 0
IsPartly name bytes told told' = (told' ≡ told) ⊎ HasPart name bytes told told'
