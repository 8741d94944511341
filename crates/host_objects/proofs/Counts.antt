-- A count of the objects that pass a test, one after another.
use Rattle.std.specs.Prelude.{◌≡◌, ℕ, ◌+◌, ◌^◌, ◌<◌, Bool, List, length, count_by}
use Rattle.abi_calls.specs.Objects.{Object, Live, number_of}

-- What was counted, with what passes of the rest, is the number of all.
pub record CountsOn (test : Object → Bool) (count : ℕ) (rest : List Object) (live : Live) : Type 0 where
  pub all : count + count_by test rest ≡ number_of test live
  pub few : count + length rest < 2 ^ 63
