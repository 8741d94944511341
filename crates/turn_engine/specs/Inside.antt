-- What is said of what a host tells: runs depend on the files and the input; the console's output
-- and its errors are told each on its own.
use Rattle.std.specs.Prelude.{◌≡◌, ℕ, List, ◌++◌}
use Rattle.std.specs.declared.option.Option.{Option}
use Rattle.std.specs.declared.option.Option.TheVariants.{None, Some}
use Rattle.bas_edge.specs.Files.{Files}
use Rattle.abi_calls.specs.World.{Told}
use Rattle.mono_model.specs.Readable.{Readable}
use Rattle.mono_model.specs.Written.{Written}

abbrev pub readable_of : Option Files → Option (List ℕ) → Option Readable
readable_of (Some files) (Some input) = Some (record { files = files; input = input })
readable_of _ _ = None

-- The files and the input, where both are told.
abbrev pub readable : Told → Option Readable
readable told = readable_of told.files told.input

-- Where files and input are told before, they are told after, and the two are so.
pub record WhereReadable (told told' : Told) (P : Readable → Readable → Type 0) : Type 0 where
  pub holds : (x : Readable) → readable told ≡ Some x
      → (y : Readable) × (readable told' ≡ Some y) × P x y

-- A text that is told is longer by this; one that isn't told stays untold.
abbrev pub IsLonger : Option (List ℕ) → Option (List ℕ) → List ℕ → Type 0
IsLonger None after more = after ≡ None
IsLonger (Some text) after more = after ≡ Some (text ++ more)

-- This was written, as far as the output and the errors are told.
pub record IsWritten (told told' : Told) (written : Written) : Type 0 where
  pub output : IsLonger told.output told'.output written.output
  pub errors : IsLonger told.errors told'.errors written.errors

-- Of this a first part was written.
pub record IsPartly (told told' : Told) (whole : Written) : Type 0 where
  pub part : Written
  pub rest : Written
  pub output : whole.output ≡ part.output ++ rest.output
  pub errors : whole.errors ≡ part.errors ++ rest.errors
  pub written : IsWritten told told' part
