-- A list taken piece by piece.
use Rattle.std.specs.Prelude.{◌≡◌, ℕ, ◌+◌, ◌-◌, ◌≤◌, List, [], ◌++◌, length, take, drop}
use Rattle.std.proofs.Common.{sym, ap, ◌∙◌, arith, inl, inr, append_assoc, append-nil, drop-drop, length-append, length-take, take-append-drop}
use Rattle.std.proofs.lemmas.Bool.{cases_lt}
use Rattle.std.proofs.lemmas.List.{nil_from_length, take_all, drop_all}
use lib.Seq.{take-add}

-- A piece, and what is then left of the whole.
pub piece_and_rest : (xs : List ℕ) (k n : ℕ) → k ≤ n → take k xs ++ take (n - length (take k xs)) (drop (length (take k xs)) xs) ≡ take n xs
piece_and_rest xs k n within =
    elim (cases_lt (length xs) k) [
      | inl short ↦
          let whole : take k xs ≡ xs = take_all k xs (omega arith) in
          let rest : take (n - length (take k xs)) (drop (length (take k xs)) xs) ≡ [] =
          ap (λ ys. take (n - length ys) (drop (length ys) xs)) whole ∙ ap (take (n - length xs)) (drop_all (length xs) xs (omega arith)) ∙ nil_from_length (take (n - length xs) []) (omega (arith, length-take {A = ℕ} (n - length xs) [])) in
          (λ i. whole i ++ rest i) ∙ append-nil xs ∙ sym (take_all n xs (omega arith))
      | inr long ↦
          let full : length (take k xs) ≡ k = omega (arith, length-take k xs) in
          let all : k + (n - k) ≡ n = omega arith in
          ap (λ j. take k xs ++ take (n - j) (drop j xs)) full ∙ sym (take-add k (n - k) xs) ∙ ap (λ j. take j xs) all
    ]

-- Behind what is read already: the bytes of a file up to a size, by a piece and the rest.
pub read_and_rest : (bytes file : List ℕ) (size k : ℕ) → k ≤ size - length bytes →
    let got = take k (drop (length bytes) file) in
    (bytes ++ got) ++ take (size - length (bytes ++ got)) (drop (length (bytes ++ got)) file) ≡ bytes ++ take (size - length bytes) (drop (length bytes) file)
read_and_rest bytes file size k within =
    let got = take k (drop (length bytes) file) in
    let left : size - length (bytes ++ got) ≡ size - length bytes - length got = omega (arith, length-append bytes got) in
    let behind : drop (length (bytes ++ got)) file ≡ drop (length got) (drop (length bytes) file) = ap (λ n. drop n file) (length-append bytes got) ∙ sym (drop-drop (length got) (length bytes) file) in
    append_assoc bytes got _
    ∙ (λ i. bytes ++ (got ++ take (left i) (behind i)))
    ∙ ap (λ rest. bytes ++ rest) (piece_and_rest (drop (length bytes) file) k (size - length bytes) within)

-- Nothing is got where nothing is left.
pub nothing_left : (xs : List ℕ) (k n : ℕ) → (k ≡ 0 → n ≡ 0) → length (take k xs) ≡ 0
    → take n xs ≡ []
nothing_left xs k n some none =
    nil_from_length (take n xs) (grind (arith, length-take k xs, length-take n xs))

-- A piece is all where it is as long as all.
pub piece_is_all : (xs : List ℕ) (k n : ℕ) → k ≤ n → n ≤ length (take k xs) → take k xs ≡ take n xs
piece_is_all xs k n within long = let same : k ≡ n = omega (arith, length-take k xs) in ap (λ j. take j xs) same

-- A piece, and what stands behind it.
pub piece_and_behind : (xs : List ℕ) (k : ℕ) → take k xs ++ drop (length (take k xs)) xs ≡ xs
piece_and_behind xs k =
    elim (cases_lt (length xs) k) [
      | inl short ↦
          let whole : take k xs ≡ xs = take_all k xs (omega arith) in
          (λ i. whole i ++ drop (length (whole i)) xs) ∙ ap (λ ys. xs ++ ys) (drop_all (length xs) xs (omega arith)) ∙ append-nil xs
      | inr long ↦
          let full : length (take k xs) ≡ k = omega (arith, length-take k xs) in
          ap (λ j. take k xs ++ drop j xs) full ∙ take-append-drop k xs
    ]
