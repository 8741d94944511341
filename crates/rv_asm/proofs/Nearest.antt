-- Numbers past 2^64 in size fit nowhere, so that no line's bytes and size depend on how they are held.
use Rattle.std.proofs.Common.{◌≡◌, ◌<◌, ◌≤◌, ◌^◌, ◌-◌, ◌+◌, ◌*◌, min, ℕ, Bool, true, false, not, ◌&&◌, cond, List, [], ◌∷◌, map, Option, Some, None, ℤ, pos, negsuc, Result, Ok, Err, ◌⊎◌, inl, inr, refl, sym, ap, ◌∙◌, arith, rules}
use Rattle.std.specs.Int.{w64, is_negative}
use Rattle.std.specs.Int.RustNames.{FitsSigned, unsigned_abs}
use Rattle.std.specs.List.{list_all}
use Rattle.std.proofs.lemmas.Int.{ints}
use Rattle.std.proofs.lemmas.List.{length-map}
use Rattle.std.proofs.lemmas.Bool.{cases_lt, le-ltb, lt-ltb}
use Rattle.asm_text.specs.Numbers.{nearest, largest}
use Rattle.rv_core.specs.declared.instr.Op.{Op}
use Rattle.rv_core.specs.Encoding.{is_signed_by, is_below}
use Rattle.rv_asm.specs.declared.AsmCause.{AsmCause}
use Rattle.rv_asm.specs.declared.AsmCause.TheVariants as causes
use Rattle.rv_asm.specs.declared.labels.Definition.{Definition}
use Rattle.rv_asm.specs.declared.line.Line.{Line}
use Rattle.rv_asm.specs.declared.statement.Width.{Width}
use Rattle.rv_asm.specs.declared.statement.Width.TheVariants as widths
use Rattle.rv_asm.specs.declared.statement.Statement.{Statement}
use Rattle.rv_asm.specs.declared.statement.Statement.TheVariants.{Plain, Upper, Branch, Jump, LoadNumber, LoadAddress, Bytes, Numbers, Zeros, Align}
use Rattle.rv_asm.specs.Answers.{farthest, nearest_address, nearest_statement, nearest_said, nearest_line}
use Rattle.rv_asm.specs.Encoding.{instr, fits_half, fits_width, fits_word, fits_values, instructions_of, is_undefined, is_big, is_short, count_of, padding, limit, statement_size, width_size, bytes_of}
use Rattle.rv_asm.specs.Line.{is_twice, size_of, line_end, line_bytes}
use Rattle.rv_asm.proofs.Ranges.{encoded-far}

-- A number is its nearest one, or both are past 2^64 in size.
pub record IsFar (z : ℤ) : Type 0 where
  pub size : largest ≤ unsigned_abs z

near_or_far : (z : ℤ) → (nearest z ≡ z) ⊎ (IsFar z × IsFar (nearest z))
near_or_far (pos n) = near (cases_lt n largest)
  where
    near : (n < largest) ⊎ (largest ≤ n) → (pos (min largest n) ≡ pos n) ⊎ (IsFar (pos n) × IsFar (pos (min largest n)))
    near (inl below) = let e : min largest n ≡ n = omega (arith, below) in inl (ap pos e)
    near (inr past) =
        let e : largest ≤ min largest n = omega (arith, past) in inr (record { size = past }, record { size = e })
near_or_far (negsuc n) = near (cases_lt n (largest - 1))
  where
    near : (n < largest - 1) ⊎ (largest - 1 ≤ n)
        → (negsuc (min (largest - 1) n) ≡ negsuc n) ⊎ (IsFar (negsuc n) × IsFar (negsuc (min (largest - 1) n)))
    near (inl below) = let e : min (largest - 1) n ≡ n = omega (arith, below) in inl (ap negsuc e)
    near (inr past) =
        let a : largest ≤ unsigned_abs (negsuc n) = omega (arith, past) in
        let b : largest ≤ unsigned_abs (negsuc (min (largest - 1) n)) = omega (arith, past) in
        inr (record { size = a }, record { size = b })

far-signed : (half : ℕ) (z : ℤ) → half < largest → IsFar z → is_signed_by half z ≡ false
far-signed half (pos n) small far = le-ltb n half (omega (arith, far.size, small))
far-signed half (negsuc n) small far = le-ltb n half (omega (arith, far.size, small))

far-below : (bound : ℕ) (z : ℤ) → bound < largest → IsFar z → is_below bound z ≡ false
far-below bound (pos n) small far = le-ltb n bound (omega (arith, far.size, small))
far-below bound (negsuc n) small far = refl

far-half : (half : ℕ) (z : ℤ) → half + half ≤ largest → IsFar z → fits_half half z ≡ false
far-half half (pos n) small far = le-ltb n (half + half) (omega (arith, far.size, small))
far-half half (negsuc n) small far = le-ltb n half (omega (arith, far.size, small))

far-width : (width : Width) (z : ℤ) → IsFar z → fits_width width z ≡ false
far-width widths.Byte z far = far-half (2 ^ 7) z (omega arith) far
far-width widths.Word z far = far-half (2 ^ 31) z (omega arith) far
far-width widths.Dword z far = far-half (2 ^ 63) z (omega arith) far

far-fits : (z : ℤ) → IsFar z → ¬ FitsSigned w64 z
far-fits (pos n) far fits = omega (arith, ints, far.size, fits)
far-fits (negsuc n) far fits = omega (arith, ints, far.size, fits)

far-word : (o : Op) (rd rs1 rs2 : ℕ) (z : ℤ) → IsFar z → fits_word (instr o rd rs1 rs2 z) ≡ false
far-word o rd rs1 rs2 z far = rw (encoded-far (instr o rd rs1 rs2 z) (far-fits z far)) refl

-- A test that both numbers fail, or that is of one number.
same-test : (test : ℤ → Bool) (z : ℤ) → ((y : ℤ) → IsFar y → test y ≡ false) → test (nearest z) ≡ test z
same-test test z fails = by (near_or_far z)
  where
    by : (nearest z ≡ z) ⊎ (IsFar z × IsFar (nearest z)) → test (nearest z) ≡ test z
    by (inl near) = ap test near
    by (inr far) = fails (nearest z) far.1 ∙ sym (fails z far.0)

-- Sizes

size-nearest : (at : ℕ) (s : Statement)
    → nearest_address (at + statement_size at (nearest_statement s)) ≡ nearest_address (at + statement_size at s)
size-nearest at (Plain o rd rs1 rs2 n) = refl
size-nearest at (Upper o rd n) = refl
size-nearest at (Branch o rs1 rs2 label) = refl
size-nearest at (Jump rd label) = refl
size-nearest at (LoadNumber rd n) =
    ap (λ b. nearest_address (at + cond b 4 8)) (same-test is_short n (λ y far. far-signed (2 ^ 11) y (omega arith) far))
size-nearest at (LoadAddress rd label) = refl
size-nearest at (Bytes bytes) = refl
size-nearest at (Numbers width ns) = ap (λ k. nearest_address (at + width_size width * k)) (length-map ns nearest)
size-nearest at (Zeros (pos n)) =
    let e : min farthest (at + min largest n) ≡ min farthest (at + n) = omega arith in e
size-nearest at (Zeros (negsuc n)) = refl
size-nearest at (Align n) = by (near_or_far n)
  where
    by : (nearest n ≡ n) ⊎ (IsFar n × IsFar (nearest n))
        → nearest_address (at + statement_size at (Align (nearest n))) ≡ nearest_address (at + statement_size at (Align n))
    by (inl near) = ap (λ z. nearest_address (at + statement_size at (Align z))) near
    by (inr far) =
        let a : is_below 13 (nearest n) ≡ false = far-below 13 (nearest n) (omega arith) far.1 in
        let b : is_below 13 n ≡ false = far-below 13 n (omega arith) far.0 in
        ap (λ t. nearest_address (at + cond t (padding at (count_of (nearest n))) 0)) a
        ∙ sym (ap (λ t. nearest_address (at + cond t (padding at (count_of n)) 0)) b)

-- Bytes

bytes_of-range : (find : List ℕ → Option Definition) (at : ℕ) (s : Statement) → is_undefined find s ≡ false
    → fits_values find at s ≡ false → bytes_of find at s ≡ Err causes.Range
unfolding bytes_of
bytes_of-range find at s named unfit = rw (named, unfit) refl

bytes_of-big : (find : List ℕ → Option Definition) (at : ℕ) (s : Statement) → is_undefined find s ≡ false
    → fits_values find at s ≡ true → is_big at s ≡ true → bytes_of find at s ≡ Err causes.Big
unfolding bytes_of
bytes_of-big find at s named fit big = rw (named, fit, big) refl

same-bytes : (find : List ℕ → Option Definition) (at : ℕ) (s : ℤ → Statement) (cause : AsmCause) (z : ℤ)
    → ((y : ℤ) → IsFar y → bytes_of find at (s y) ≡ Err cause) → bytes_of find at (s (nearest z)) ≡ bytes_of find at (s z)
same-bytes find at s cause z refused = by (near_or_far z)
  where
    by : (nearest z ≡ z) ⊎ (IsFar z × IsFar (nearest z)) → bytes_of find at (s (nearest z)) ≡ bytes_of find at (s z)
    by (inl near) = ap (λ y. bytes_of find at (s y)) near
    by (inr far) = refused (nearest z) far.1 ∙ sym (refused z far.0)

plain-far : (find : List ℕ → Option Definition) (at : ℕ) (o : Op) (rd rs1 rs2 : ℕ) (y : ℤ) → IsFar y
    → bytes_of find at (Plain o rd rs1 rs2 y) ≡ Err causes.Range
unfolding instructions_of
plain-far find at o rd rs1 rs2 y far =
    bytes_of-range find at (Plain o rd rs1 rs2 y) refl (ap (λ b. b && true) (far-word o rd rs1 rs2 y far))

first-false : (a b : Bool) → a ≡ false → (a && b) ≡ false
first-false a b h = rw h refl

counts : (m : ℕ) → not (is_negative (pos m)) ≡ true
counts m = search (rules, ints)

zeros-nearest : (find : List ℕ → Option Definition) (at : ℕ) (z : ℤ) → bytes_of find at (Zeros (nearest z)) ≡ bytes_of find at (Zeros z)
unfolding instructions_of
zeros-nearest find at (pos n) = by (near_or_far (pos n))
  where
    big : (m : ℕ) → largest ≤ m → bytes_of find at (Zeros (pos m)) ≡ Err causes.Big
    big m past = bytes_of-big find at (Zeros (pos m)) refl (ap (λ b. b && true) (counts m)) (lt-ltb limit (at + m) (omega (arith, past)))

    by : (nearest (pos n) ≡ pos n) ⊎ (IsFar (pos n) × IsFar (nearest (pos n)))
        → bytes_of find at (Zeros (nearest (pos n))) ≡ bytes_of find at (Zeros (pos n))
    by (inl near) = ap (λ y. bytes_of find at (Zeros y)) near
    by (inr far) = big (min largest n) far.1.size ∙ sym (big n far.0.size)
zeros-nearest find at (negsuc n) =
    bytes_of-range find at (Zeros (nearest (negsuc n))) refl refl ∙ sym (bytes_of-range find at (Zeros (negsuc n)) refl refl)

fits-nearest : (width : Width) (ns : List ℤ) → list_all (fits_width width) (map nearest ns) ≡ list_all (fits_width width) ns
fits-nearest width [] = refl
fits-nearest width (n ∷ ns) =
    ap (λ b. b && list_all (fits_width width) (map nearest ns)) (same-test (fits_width width) n (far-width width))
    ∙ ap (λ b. fits_width width n && b) (fits-nearest width ns)

near-width : (width : Width) (n : ℤ) → fits_width width n ≡ true → nearest n ≡ n
near-width width n fit = by (near_or_far n)
  where
    by : (nearest n ≡ n) ⊎ (IsFar n × IsFar (nearest n)) → nearest n ≡ n
    by (inl near) = near
    by (inr far) = let no = far-width width n far.0 in cc

both : (a b : Bool) → (a && b) ≡ true → (a ≡ true) × (b ≡ true)
both true true e = (refl, refl)
both true false e = cc
both false b e = cc

map-nearest : (width : Width) (ns : List ℤ) → list_all (fits_width width) ns ≡ true → map nearest ns ≡ ns
map-nearest width [] fit = refl
map-nearest width (n ∷ ns) fit =
    let parts = both (fits_width width n) (list_all (fits_width width) ns) fit in
    ap (λ x. x ∷ map nearest ns) (near-width width n parts.0) ∙ ap (λ xs. n ∷ xs) (map-nearest width ns parts.1)

numbers-nearest : (find : List ℕ → Option Definition) (at : ℕ) (width : Width) (ns : List ℤ) (b : Bool)
    → list_all (fits_width width) ns ≡ b → bytes_of find at (Numbers width (map nearest ns)) ≡ bytes_of find at (Numbers width ns)
unfolding instructions_of
numbers-nearest find at width ns true fit = ap (λ xs. bytes_of find at (Numbers width xs)) (map-nearest width ns fit)
numbers-nearest find at width ns false unfit =
    bytes_of-range find at (Numbers width (map nearest ns)) refl (first-false _ true (fits-nearest width ns ∙ unfit))
    ∙ sym (bytes_of-range find at (Numbers width ns) refl (first-false _ true unfit))

bytes_of-nearest : (find : List ℕ → Option Definition) (at : ℕ) (s : Statement) → bytes_of find at (nearest_statement s) ≡ bytes_of find at s
bytes_of-nearest find at (Plain o rd rs1 rs2 n) =
    same-bytes find at (λ y. Plain o rd rs1 rs2 y) causes.Range n (plain-far find at o rd rs1 rs2)
bytes_of-nearest find at (Upper o rd n) =
    same-bytes find at (λ y. Upper o rd y) causes.Range n (λ y far. bytes_of-range find at (Upper o rd y) refl
    (first-false _ _ (far-below (2 ^ 20) y (omega arith) far)))
bytes_of-nearest find at (Branch o rs1 rs2 label) = refl
bytes_of-nearest find at (Jump rd label) = refl
bytes_of-nearest find at (LoadNumber rd n) =
    same-bytes find at (λ y. LoadNumber rd y) causes.Range n (λ y far. bytes_of-range find at (LoadNumber rd y) refl
    (first-false _ _ (far-signed (2 ^ 31) y (omega arith) far)))
bytes_of-nearest find at (LoadAddress rd label) = refl
bytes_of-nearest find at (Bytes bytes) = refl
bytes_of-nearest find at (Numbers width ns) = numbers-nearest find at width ns (list_all (fits_width width) ns) refl
bytes_of-nearest find at (Zeros n) = zeros-nearest find at n
bytes_of-nearest find at (Align n) =
    same-bytes find at (λ y. Align y) causes.Range n (λ y far. bytes_of-range find at (Align y) refl
    (first-false _ _ (far-below 13 y (omega arith) far)))

-- Lines

said-size : (at : ℕ) (said : Result (Option Statement) AsmCause)
    → nearest_address (at + size_of at (nearest_said said)) ≡ nearest_address (at + size_of at said)
said-size at (Ok (Some s)) = size-nearest at s
said-size at (Ok None) = refl
said-size at (Err cause) = refl

pub line_end-nearest : (at : ℕ) (line : Line) → nearest_address (line_end at (nearest_line line)) ≡ nearest_address (line_end at line)
line_end-nearest at line = said-size at line.statement

said-bytes : (find : List ℕ → Option Definition) (number at : ℕ) (label : Option (List ℕ)) (said : Result (Option Statement) AsmCause)
    → line_bytes find number at (record { label = label; statement = nearest_said said })
    ≡ line_bytes find number at (record { label = label; statement = said })
unfolding line_bytes
said-bytes find number at label (Ok (Some s)) =
    ap (λ r. cond (is_twice find number label) (Err causes.Twice) r) (bytes_of-nearest find at s)
said-bytes find number at label (Ok None) = refl
said-bytes find number at label (Err cause) = refl

pub line_bytes-nearest : (find : List ℕ → Option Definition) (number at : ℕ) (line : Line)
    → line_bytes find number at (nearest_line line) ≡ line_bytes find number at line
line_bytes-nearest find number at line = said-bytes find number at line.label line.statement
