-- Blanks at the end of a text, the bytes of a quoted text, and parts between commas.
use Rattle.std.proofs.Common.{◌≡◌, ℕ, ◌+◌, ◌<◌, ◌≤◌, ◌==◌, ◌-◌, suc, Bool, true, false, List, [], ◌∷◌, ◌++◌, length, take, drop, map, cond, refl, sym, ap, ◌∙◌, Option, Some, None, option_map, arith, append_assoc, subst}
use Rattle.std.proofs.Math.Numerals.{one-add}
use Rattle.std.proofs.lemmas.List.{append-nil, take_all, length-drop}
use Rattle.std.proofs.lemmas.Bool.{ne_eqb, ltb-true, ltb-false, lt-ltb, le-ltb}
use denote.Ref.{Bor}
use Rattle.std.specs.List.{onto_first}
use Rattle.std.specs.Bool.{then_some, nat_lt}
use Rattle.std.specs.Option.{option_copied}
use Rattle.asm_text.specs.declared.text.Quoting.{Quoting}
use Rattle.asm_text.specs.declared.text.Quoting.TheVariants.{Outside}
use Rattle.asm_text.specs.Text.{is_blank, before_blanks, trim_end, trim, unquoted, quoted, is_mark, length_before, quoting_behind, parts, before, behind}

pub trim_end-blank : (xs : List ℕ) (c : ℕ) → is_blank c ≡ true → trim_end (xs ++ c ∷ []) ≡ trim_end xs
trim_end-blank [] c h = rw h refl
trim_end-blank (x ∷ xs) c h = ap (before_blanks x) (trim_end-blank xs c h)

before_blanks-push : (x : ℕ) (xs : List ℕ) (c : ℕ) → before_blanks x (xs ++ c ∷ []) ≡ x ∷ (xs ++ c ∷ [])
before_blanks-push x [] c = refl
before_blanks-push x (y ∷ ys) c = refl

pub trim_end-other : (xs : List ℕ) (c : ℕ) → is_blank c ≡ false → trim_end (xs ++ c ∷ []) ≡ xs ++ c ∷ []
trim_end-other [] c h = rw h refl
trim_end-other (x ∷ xs) c h = ap (before_blanks x) (trim_end-other xs c h) ∙ before_blanks-push x xs c

-- Quoted texts

pub unquoted-plain : (c : ℕ) (cs : List ℕ) → (c == 34) ≡ false → (c == 92) ≡ false
    → unquoted (c ∷ cs) ≡ option_map (λ bytes. c ∷ bytes) (unquoted cs)
unquoted-plain c [] quote backslash = rw quote refl
unquoted-plain c (d ∷ ds) quote backslash = rw (quote, backslash) refl

-- Bytes before those of a quoted text.
unfoldable pub joined : List ℕ → Option (List ℕ) → Option (List ℕ)
joined front o = option_map (λ bytes. front ++ bytes) o

pub joined-none : (o : Option (List ℕ)) → joined [] o ≡ o
unfolding joined
joined-none None = refl
joined-none (Some bytes) = refl

pub joined-push : (front : List ℕ) (byte : ℕ) (o : Option (List ℕ))
    → joined front (option_map (λ bytes. byte ∷ bytes) o) ≡ joined (front ++ byte ∷ []) o
unfolding joined
joined-push front byte None = refl
joined-push front byte (Some bytes) = ap Some (sym append_assoc_at)
  where
    append_assoc_at : (front ++ byte ∷ []) ++ bytes ≡ front ++ (byte ∷ bytes)
    append_assoc_at = simp append_assoc

pub joined-next : (front new text behind : List ℕ) (byte : ℕ)
    → unquoted text ≡ option_map (λ bytes. byte ∷ bytes) (unquoted behind) → new ≡ front ++ byte ∷ []
    → joined front (unquoted text) ≡ joined new (unquoted behind)
joined-next front new text behind byte step pushed =
    ap (joined front) step ∙ (joined-push front byte (unquoted behind) ∙ ap (λ b. joined b (unquoted behind)) (sym pushed))

joined-end_at : (front rest : List ℕ) → joined front (unquoted (34 ∷ rest)) ≡ then_some (length rest == 0) front
unfolding joined
joined-end_at front [] = ap Some (append-nil front)
joined-end_at front (c ∷ cs) =
    let e : (suc (length cs) == 0) ≡ false = ne_eqb (suc (length cs)) 0 (λ h. omega (arith, h)) in
    sym (ap (λ b. then_some b front) e)

pub joined-end : (front text rest : List ℕ) (c : ℕ) → text ≡ c ∷ rest → c ≡ 34
    → joined front (unquoted text) ≡ then_some (length rest == 0) front
joined-end front text rest c whole quote =
    ap (λ t. joined front (unquoted t)) (whole ∙ ap (λ d. d ∷ rest) quote) ∙ joined-end_at front rest

pub joined-refused : (front : List ℕ) (o : Option (List ℕ)) → o ≡ None → joined front o ≡ None
unfolding joined
joined-refused front o h = rw h refl

pub joined-open : (front text : List ℕ) → length text ≡ 0 → joined front (unquoted text) ≡ None
unfolding joined
joined-open front [] h = refl
joined-open front (c ∷ cs) h = absurd (omega (arith, h))

pub quoted-begins : (operand text : List ℕ) (c : ℕ) → operand ≡ c ∷ text → c ≡ 34 → quoted operand ≡ unquoted text
quoted-begins operand text c whole quote = ap quoted (whole ∙ ap (λ d. d ∷ text) quote)

-- Parts

parts-here : (q : Quoting) (c : ℕ) (cs : List ℕ) → is_mark (44 ∷ []) q c ≡ true → parts q (c ∷ cs) ≡ [] ∷ parts Outside cs
parts-here q c cs h = rw h refl

parts-later : (q : Quoting) (c : ℕ) (cs : List ℕ) → is_mark (44 ∷ []) q c ≡ false
    → parts q (c ∷ cs) ≡ onto_first c (parts (quoting_behind q c) cs)
parts-later q c cs h = rw h refl

length_before-here : (marks : List ℕ) (q : Quoting) (c : ℕ) (cs : List ℕ) → is_mark marks q c ≡ true
    → length_before marks q (c ∷ cs) ≡ 0
length_before-here marks q c cs h = rw h refl

length_before-later : (marks : List ℕ) (q : Quoting) (c : ℕ) (cs : List ℕ) → is_mark marks q c ≡ false
    → length_before marks q (c ∷ cs) ≡ suc (length_before marks (quoting_behind q c) cs)
length_before-later marks q c cs h = rw h (one-add (length_before marks (quoting_behind q c) cs))

le-length-step : (marks : List ℕ) (q : Quoting) (c : ℕ) (cs : List ℕ) (b : Bool) → is_mark marks q c ≡ b
    → length_before marks (quoting_behind q c) cs ≤ length cs → length_before marks q (c ∷ cs) ≤ suc (length cs)
le-length-step marks q c cs true mark below =
    let e = length_before-here marks q c cs mark in omega (arith, e)
le-length-step marks q c cs false mark below =
    let e = length_before-later marks q c cs mark in omega (arith, e, below)

pub length_before-le-length : (marks : List ℕ) (q : Quoting) (cs : List ℕ) → length_before marks q cs ≤ length cs
length_before-le-length marks q [] = omega arith
length_before-le-length marks q (c ∷ cs) =
    le-length-step marks q c cs (is_mark marks q c) refl (length_before-le-length marks (quoting_behind q c) cs)

whole-step : (q : Quoting) (c : ℕ) (cs : List ℕ) (b : Bool) → is_mark (44 ∷ []) q c ≡ b
    → length_before (44 ∷ []) q (c ∷ cs) ≡ suc (length cs)
    → (length_before (44 ∷ []) (quoting_behind q c) cs ≡ length cs → parts (quoting_behind q c) cs ≡ cs ∷ [])
    → parts q (c ∷ cs) ≡ (c ∷ cs) ∷ []
whole-step q c cs true mark h below =
    let e : 0 ≡ suc (length cs) = sym (length_before-here (44 ∷ []) q c cs mark) ∙ h in absurd (omega (arith, e))
whole-step q c cs false mark h below =
    let e : suc (length_before (44 ∷ []) (quoting_behind q c) cs) ≡ suc (length cs) =
    sym (length_before-later (44 ∷ []) q c cs mark) ∙ h in
    parts-later q c cs mark ∙ ap (onto_first c) (below (omega (arith, e)))

-- Without a comma outside quotes there is one part.
pub parts-whole : (q : Quoting) (cs : List ℕ) → length_before (44 ∷ []) q cs ≡ length cs → parts q cs ≡ cs ∷ []
parts-whole q [] h = refl
parts-whole q (c ∷ cs) h = whole-step q c cs (is_mark (44 ∷ []) q c) refl h (parts-whole (quoting_behind q c) cs)

first-step : (q : Quoting) (c : ℕ) (cs : List ℕ) (n : ℕ) (b : Bool) → is_mark (44 ∷ []) q c ≡ b
    → length_before (44 ∷ []) q (c ∷ cs) ≡ n → n < suc (length cs)
    → ((k : ℕ) → length_before (44 ∷ []) (quoting_behind q c) cs ≡ k → k < length cs
    → parts (quoting_behind q c) cs ≡ take k cs ∷ parts Outside (drop (k + 1) cs))
    → parts q (c ∷ cs) ≡ take n (c ∷ cs) ∷ parts Outside (drop (n + 1) (c ∷ cs))
first-step q c cs n true mark h below later =
    let e : 0 ≡ n = sym (length_before-here (44 ∷ []) q c cs mark) ∙ h in
    let P : ℕ → Type 0 = λ m. parts q (c ∷ cs) ≡ take m (c ∷ cs) ∷ parts Outside (drop (m + 1) (c ∷ cs)) in
    subst P e (parts-here q c cs mark)
first-step q c cs n false mark h below later =
    let k = length_before (44 ∷ []) (quoting_behind q c) cs in
    let e : suc k ≡ n = sym (length_before-later (44 ∷ []) q c cs mark) ∙ h in
    let under : k < length cs = omega (arith, e, below) in
    let next : suc (k + 1) ≡ suc k + 1 = omega arith in
    let P : ℕ → Type 0 = λ m. parts q (c ∷ cs) ≡ take m (c ∷ cs) ∷ parts Outside (drop (m + 1) (c ∷ cs)) in
    let here : parts q (c ∷ cs) ≡ take (suc k) (c ∷ cs) ∷ parts Outside (drop (suc (k + 1)) (c ∷ cs)) =
    parts-later q c cs mark ∙ ap (onto_first c) (later k refl under) in
    subst P e (subst (λ m. parts q (c ∷ cs) ≡ take (suc k) (c ∷ cs) ∷ parts Outside (drop m (c ∷ cs))) next here)

-- The first part ends at the first comma outside quotes.
pub parts-first : (q : Quoting) (cs : List ℕ) (n : ℕ) → length_before (44 ∷ []) q cs ≡ n → n < length cs
    → parts q cs ≡ take n cs ∷ parts Outside (drop (n + 1) cs)
parts-first q [] n h below = absurd (omega (arith, below))
parts-first q (c ∷ cs) n h below =
    first-step q c cs n (is_mark (44 ∷ []) q c) refl h below (parts-first (quoting_behind q c) cs)

-- The parts of what is left of a text, if anything is.
abbrev pub parts_in : Option (List ℕ) → List (List ℕ)
parts_in None = []
parts_in (Some text) = parts Outside text

parts-cut : (text : List ℕ) (n : ℕ) (b : Bool) → length_before (44 ∷ []) Outside text ≡ n → nat_lt n (length text) ≡ b
    → parts Outside text ≡ take n text ∷ parts_in (cond b (Some (drop (n + 1) text)) None)
parts-cut text n true at within = parts-first Outside text n at (ltb-true n (length text) within)
parts-cut text n false at beyond =
    let bound = length_before-le-length (44 ∷ []) Outside text in
    let past = ltb-false n (length text) beyond in
    let e : n ≡ length text = omega (arith, bound, at, past) in
    parts-whole Outside text (at ∙ e)
    ∙ sym (ap (λ t. t ∷ []) (ap (λ m. take m text) e ∙ take_all (length text) text (omega arith)))

-- The first part, and the parts behind the first comma outside quotes.
pub parts-before : (text : List ℕ) → parts Outside text ≡ before (44 ∷ []) text ∷ parts_in (behind (44 ∷ []) text)
unfolding before behind
parts-before text =
    let n = length_before (44 ∷ []) Outside text in parts-cut text n (nat_lt n (length text)) refl refl

-- What is left of a text, if anything is, and how much that is.
abbrev pub parts_left : Option (Bor (List ℕ)) → List (List ℕ)
parts_left rest = parts_in (option_copied rest)

abbrev pub bytes_left : Option (Bor (List ℕ)) → ℕ
bytes_left None = 0
bytes_left (Some text) = suc (length text.now)

pub parts-more : (all items new : List (List ℕ)) (text part : List ℕ) (more : Option (Bor (List ℕ)))
    → all ≡ items ++ map trim (parts Outside text) → part ≡ before (44 ∷ []) text
    → option_copied more ≡ behind (44 ∷ []) text → new ≡ items ++ trim part ∷ []
    → all ≡ new ++ map trim (parts_left more)
parts-more all items new text part more so_far front rest pushed =
    so_far
    ∙ (ap (λ ps. items ++ map trim ps) (parts-before text)
    ∙ (ap (λ t. items ++ (trim t ∷ map trim (parts_in (behind (44 ∷ []) text)))) (sym front)
    ∙ (ap (λ o. items ++ (trim part ∷ map trim (parts_in o))) (sym rest)
    ∙ (sym append_assoc_at
    ∙ ap (λ is. is ++ map trim (parts_left more)) (sym pushed)))))
  where
    append_assoc_at : (items ++ trim part ∷ []) ++ map trim (parts_left more)
        ≡ items ++ trim part ∷ map trim (parts_left more)
    append_assoc_at = simp append_assoc

-- The front of a slice from a place to the end is all that stands there.
pub take-drop_end : (n : ℕ) (text : List ℕ) → take (length text - n) (drop n text) ≡ drop n text
take-drop_end n text = take_all (length text - n) (drop n text) (omega (arith, length-drop n text))

-- Where no mark stands outside quotes.
pub before-none : (marks text : List ℕ) → length_before marks Outside text ≡ length text → text ≡ before marks text
unfolding before
before-none marks text end = sym (ap (λ m. take m text) end ∙ take_all (length text) text (omega arith))

pub behind-none : (marks text : List ℕ) → length_before marks Outside text ≡ length text → None ≡ behind marks text
unfolding behind
behind-none marks text end =
    let beyond : nat_lt (length_before marks Outside text) (length text) ≡ false = le-ltb (length_before marks Outside text) (length text) (omega (arith, end)) in
    sym (ap (λ b. cond b (Some (drop (length_before marks Outside text + 1) text)) None) beyond)

-- Where one stands.
pub before-some : (marks text : List ℕ) (n : ℕ) → n ≡ length_before marks Outside text → take n text ≡ before marks text
unfolding before
before-some marks text n at = ap (λ m. take m text) at

pub behind-some : (marks text : List ℕ) (n : ℕ) → n ≡ length_before marks Outside text → n < length text
    → Some (take (length text - (n + 1)) (drop (n + 1) text)) ≡ behind marks text
unfolding behind
behind-some marks text n at below =
    let within : nat_lt (length_before marks Outside text) (length text) ≡ true = lt-ltb (length_before marks Outside text) (length text) (omega (arith, at, below)) in
    ap Some (take-drop_end (n + 1) text ∙ ap (λ m. drop (m + 1) text) at)
    ∙ sym (ap (λ b. cond b (Some (drop (length_before marks Outside text + 1) text)) None) within)
