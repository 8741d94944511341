-- How a run goes on, and how it ends.
use Rattle.std.proofs.Common.{◌≡◌, ℕ, zero, suc, true, false, ap, append_assoc}
use Rattle.std.specs.declared.option.Option.TheVariants.{None, Some}
use Rattle.mono_model.specs.Machine.{Mono, exit_code}
use Rattle.mono_model.specs.Written.{Written, and_then}
use Rattle.mono_model.specs.Turns.{Exited, Bound, Stuck, ends_as, behind, is_stuck, turn_of, run_of, run_on, run_stopped}

-- process 1 has exited
pub run_of-exited : (n : ℕ) (m : Mono) (code : ℕ) → exit_code m 1 ≡ Some code → run_of n m ≡ ends_as (Exited code) m
unfolding run_of
run_of-exited zero m code is = ap (run_stopped m) is
run_of-exited (suc n) m code is = ap (λ c. run_on m c (is_stuck m) (λ (next : Mono). run_of n next)) is

-- the turns are made
pub run_of-bound : (m : Mono) → exit_code m 1 ≡ None → run_of 0 m ≡ ends_as Bound m
unfolding run_of
run_of-bound m is = ap (run_stopped m) is

-- nothing can happen any more
pub run_of-stuck : (n : ℕ) (m : Mono) → exit_code m 1 ≡ None → is_stuck m ≡ true → run_of (suc n) m ≡ ends_as Stuck m
unfolding run_of
run_of-stuck n m is stuck = λ i. run_on m (is i) (stuck i) (λ (next : Mono). run_of n next)

-- a turn is made
pub run_of-turn : (n : ℕ) (m : Mono) → exit_code m 1 ≡ None → is_stuck m ≡ false → run_of (suc n) m ≡ behind (turn_of m).1 (run_of n (turn_of m).0)
unfolding run_of
run_of-turn n m is goes = λ i. run_on m (is i) (goes i) (λ (next : Mono). run_of n next)

-- One text behind another behind a third.
pub and_then-assoc : (a b c : Written) → and_then (and_then a b) c ≡ and_then a (and_then b c)
and_then-assoc a b c = λ i. record { output = append_assoc a.output b.output c.output i; errors = append_assoc a.errors b.errors c.errors i }
