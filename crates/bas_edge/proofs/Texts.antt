-- What writing does to a text.
use Rattle.std.proofs.Common.{◌≡◌, ℕ, zero, suc, ◌+◌, ◌-◌, ◌≤◌, ◌<◌, max, List, [], ◌∷◌, ◌++◌, length, take, drop, replicate, refl, sym, ap, ◌∙◌, arith, append-nil, append_assoc}
use Rattle.std.proofs.lemmas.Grind.{common_steps}
use Rattle.std.proofs.lemmas.List.{take_all, drop_all, drop-drop, take-replicate, length-replicate}
use Rattle.std.proofs.lemmas.Bool.Decides.{nat_tests}
use Rattle.std.specs.Prelude.{nat_eq, false}
use Rattle.bas_edge.specs.Files.{overwritten, resized}

pub take-append : (n : ℕ) (xs ys : List ℕ) → take n (xs ++ ys) ≡ take n xs ++ take (n - length xs) ys
take-append zero xs ys = grind (arith, common_steps)
take-append (suc n) [] ys = grind (arith, common_steps)
take-append (suc n) (x ∷ xs) ys = let e : suc n - suc (length xs) ≡ n - length xs = omega arith in
    let more : take n (xs ++ ys) ≡ take n xs ++ take (n - length xs) ys = take-append n xs ys in rw e (ap (λ l. x ∷ l) more)

pub drop-append : (n : ℕ) (xs ys : List ℕ) → drop n (xs ++ ys) ≡ drop n xs ++ drop (n - length xs) ys
drop-append zero xs ys = grind (arith, common_steps)
drop-append (suc n) [] ys = let e : suc n - 0 ≡ suc n = omega arith in rw e refl
drop-append (suc n) (x ∷ xs) ys = let e : suc n - suc (length xs) ≡ n - length xs = omega arith in
    let more : drop n (xs ++ ys) ≡ drop n xs ++ drop (n - length xs) ys = drop-append n xs ys in rw e more

-- a text that is only filled up
pub resized-max : (old : List ℕ) (size : ℕ) → resized old (max size (length old)) ≡ old ++ replicate (size - length old) 0
resized-max old size =
    let fits : length old ≤ max size (length old) = omega arith in
    let gap : max size (length old) - length old ≡ size - length old = omega arith in
    rw (take_all (max size (length old)) old fits, gap)

-- such a text, cut before and behind the bytes that are written into it
take-filled : (old : List ℕ) (at size : ℕ) → at ≤ size → take at (old ++ replicate (size - length old) 0) ≡ take at old ++ replicate (at - length old) 0
take-filled old at size h =
    let fits : at - length old ≤ size - length old = omega arith in
    take-append at old (replicate (size - length old) 0) ∙ ap (λ l. take at old ++ l) (take-replicate (at - length old) (size - length old) 0 fits)

drop-filled : (old : List ℕ) (size : ℕ) → drop size (old ++ replicate (size - length old) 0) ≡ drop size old
drop-filled old size =
    let all : length (replicate {A = ℕ} (size - length old) 0) ≤ size - length old = omega (arith, length-replicate {A = ℕ} (size - length old) 0) in
    drop-append size old (replicate (size - length old) 0) ∙ ap (λ l. drop size old ++ l) (drop_all _ _ all) ∙ append-nil (drop size old)

-- a text with bytes over a part of it
pub overwritten-parts : (old bytes text front part back rest : List ℕ) (at size : ℕ) → text ≡ resized old (max size (length old)) → front ≡ take at text → rest ≡ drop at text
    → part ≡ bytes → back ≡ drop (length bytes) rest → at + length bytes ≡ size → 0 < length bytes → front ++ (part ++ back) ≡ overwritten old at bytes
overwritten-parts old bytes text front part back rest at size is f r p b e some =
    let filled : text ≡ old ++ replicate (size - length old) 0 = is ∙ resized-max old size in
    let before : front ≡ take at old ++ replicate (at - length old) 0 = f ∙ ap (take at) filled ∙ take-filled old at size (omega arith) in
    let behind : back ≡ drop (at + length bytes) old =
    b ∙ ap (drop (length bytes)) r ∙ drop-drop (length bytes) at text ∙ ap (λ n. drop n text) e ∙ ap (drop size) filled ∙ drop-filled old size ∙ ap (λ n. drop n old) (sym e) in
    let nonempty : nat_eq (length bytes) 0 ≡ false = grind (arith, nat_tests) in
    rw nonempty (rw (before, p, behind) (simp append_assoc))

-- bytes written at the end of a text
pub overwritten-end : (old bytes : List ℕ) → overwritten old (length old) bytes ≡ old ++ bytes
overwritten-end old [] = sym (append-nil old)
overwritten-end old (b ∷ bytes) =
    let none : length old - length old ≡ 0 = omega arith in
    let behind : length old ≤ length old + suc (length bytes) = omega arith in
    let nonempty : nat_eq (length (b ∷ bytes)) 0 ≡ false = grind (arith, nat_tests) in
    rw (nonempty, none, take_all (length old) old (omega arith), drop_all _ old behind) (simp (append_assoc, append-nil))
