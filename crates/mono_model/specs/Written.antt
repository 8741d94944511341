-- What a run writes to the console, piece by piece.
use Rattle.std.specs.Prelude.{ℕ, List, [], ◌++◌}

pub record Written : Type 0 where
  pub output : List ℕ
  pub errors : List ℕ

abbrev pub nothing : Written
nothing = record { output = []; errors = [] }

-- First the one, and then the other.
abbrev pub and_then : Written → Written → Written
and_then a b = record { output = a.output ++ b.output; errors = a.errors ++ b.errors }
