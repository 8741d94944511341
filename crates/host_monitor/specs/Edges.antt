-- What the calls on the outside give, and what they leave of the contents.
use Rattle.std.specs.Prelude.{◌≡◌, ℕ, ◌+◌, ◌-◌, ◌^◌, ◌≤◌, min, List, length, take, IfSome}
use Rattle.std.specs.declared.option.Option.{Option}
use Rattle.bas_edge.specs.Files.{Files}
use Rattle.abi_calls.specs.World.{Told}
use Rattle.abi_calls.specs.Failing.{without_front}

-- As many bytes as were asked were the front of what was left, or all that was left.
pub record TakesAsked (left : Option (List ℕ)) (count : ℕ) (bytes : List ℕ)
    (left' : Option (List ℕ)) : Type 0 where
  pub within : length bytes ≤ count
  pub front : IfSome left (λ old. bytes ≡ take count old)
  pub rest : left' ≡ without_front left count

-- The outside as it is told: the files, the input that is left, the output and the errors.
abbrev pub told_of : Option Files → Option (List ℕ) → Option (List ℕ) → Option (List ℕ) → Told
told_of files input output errors =
    record { files = files; input = input; output = output; errors = errors }

-- The sum of four counts, held at the greatest number of 64 bits.
abbrev pub sum_of : ℕ → ℕ → ℕ → ℕ → ℕ
sum_of a b c d = min (a + b + c + d) (2 ^ 64 - 1)
