use Rattle.std.proofs.Common.{◌≡◌, ℕ, zero, suc, ◌*◌, ◌<◌, not, nat_eq, ◌==◌, bit_and, refl, ap, ◌∙◌, arith}
use Rattle.std.specs.Int.{bit_at}
use Rattle.std.proofs.lemmas.Nat.Bits.{and_pow, bit_at-lt}
use Rattle.elf_loader.proofs.pages.is_runnable.Goals as goal

one_bit : (b : ℕ) → b < 2 → not (nat_eq (b * 4) 0) ≡ (b == 1)
one_bit zero small = refl
one_bit (suc zero) small = refl
one_bit (suc (suc b)) small = absurd (omega arith)

run_bit : (rights : ℕ) → not (nat_eq (bit_and rights 4) 0) ≡ (bit_at rights 2 == 1)
run_bit rights = ap (λ n. not (nat_eq n 0)) (and_pow rights 2) ∙ one_bit (bit_at rights 2) (bit_at-lt rights 2)

pub returns : goal.returns
returns c = λ file is. run_bit c.page_rights.result ∙ ap (λ rights. bit_at rights 2 == 1) (c.page_rights.ensures file is)
