-- How large the argument block is, and where it stands.
use Rattle.std.specs.Prelude.{◌≡◌, ℕ, ◌+◌, ◌-◌, ◌*◌, ◌/◌, ◌≤◌, true, nat_le, List, [], ◌∷◌, ◌++◌, length, replicate, sum_by}
use Rattle.std.specs.List.{list_all, flat_map}
use Rattle.std.specs.Int.{to_le_bytes, w64}
use Rattle.std.proofs.Common.{refl, arith, leb-true, length-append}
use Rattle.std.proofs.lemmas.Bool.{and_parts}
use Rattle.std.proofs.lemmas.List.{length_push}
use Rattle.std.proofs.lemmas.List.Sums.{sum_by-cons}
use Rattle.mono_model.specs.Starting.{STACK_PAGE, STACK_PAGES, STACK_END, block_size, stack_pointer, pointers, block_at, argument_block}

pub length-pointers : (at : ℕ) (args : List (List ℕ)) → length (pointers at args) ≡ 8 * length args
length-pointers at [] = refl
length-pointers at (arg ∷ args) = omega (arith, length-append (to_le_bytes w64 at) (pointers (at + length arg + 1) args), length-pointers (at + length arg + 1) args)

pub length-texts : (args : List (List ℕ)) → length (flat_map (λ arg. arg ++ 0 ∷ []) args) ≡ sum_by (λ arg. length arg + 1) args
length-texts [] = refl
length-texts (arg ∷ args) =
    omega (arith, length-append (arg ++ 0 ∷ []) (flat_map (λ arg. arg ++ 0 ∷ []) args), length_push arg 0, length-texts args, sum_by-cons (λ (arg : List ℕ). length arg + 1) arg args)

pub length-block_at : (sp : ℕ) (args : List (List ℕ)) → length (block_at sp args) ≡ block_size args
length-block_at sp args =
    let texts = flat_map (λ arg. arg ++ 0 ∷ []) args in
    let words = pointers (sp + 8 * (length args + 3)) args in
    omega (arith, length-append (to_le_bytes w64 (length args)) (words ++ (replicate 16 0 ++ texts)), length-append words (replicate 16 0 ++ texts), length-append (replicate 16 0) texts, length-pointers (sp + 8 * (length args + 3)) args, length-texts args)

pub length-argument_block : (args : List (List ℕ)) → length (argument_block args) ≡ block_size args
length-argument_block args = length-block_at (stack_pointer args) args

pub texts_small : (args : List (List ℕ)) → list_all (λ arg. nat_le (length arg) 80) args ≡ true → sum_by (λ arg. length arg + 1) args ≤ 81 * length args
texts_small [] small = omega arith
texts_small (arg ∷ args) small =
    let parts = and_parts (nat_le (length arg) 80) (list_all (λ arg. nat_le (length arg) 80) args) small in
    omega (arith, leb-true (length arg) 80 parts.0, texts_small args parts.1, sum_by-cons (λ (arg : List ℕ). length arg + 1) arg args)

-- The block of up to 16 arguments of up to 80 bytes stands within the stack.
pub record StandsInStack (args : List (List ℕ)) : Type 0 where
  pub above : STACK_PAGE * 4096 ≤ stack_pointer args
  pub below : stack_pointer args + length (argument_block args) ≤ (STACK_PAGE + STACK_PAGES) * 4096
  pub small : length (argument_block args) ≤ 65536

size_fits : (size : ℕ) → size ≤ 1448 → (STACK_PAGE * 4096 ≤ (STACK_END - size) / 16 * 16) × ((STACK_END - size) / 16 * 16 + size ≤ (STACK_PAGE + STACK_PAGES) * 4096)
size_fits size small = (omega arith, omega arith)

pub block_stands : (args : List (List ℕ)) → length args ≤ 16 → list_all (λ arg. nat_le (length arg) 80) args ≡ true → StandsInStack args
block_stands args few small =
    let texts = texts_small args small in
    let size : block_size args ≤ 1448 = omega arith in
    let fits = size_fits (block_size args) size in
    let long = length-argument_block args in
    record { above = fits.0; below = rw long fits.1; small = rw long (omega arith) }
