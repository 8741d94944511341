-- What a run can read of the outside.
use Rattle.std.specs.Prelude.{ℕ, List}
use Rattle.bas_edge.specs.Files.{Files}

-- The files by name, and the console input that isn't read yet.
pub record Readable : Type 0 where
  pub files : Files
  pub input : List ℕ
