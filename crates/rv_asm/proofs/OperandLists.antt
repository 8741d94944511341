-- Operands in a row, read from the first one on.
use Rattle.std.proofs.Common.{◌≡◌, ℕ, suc, ◌+◌, ◌<◌, ◌≤◌, Bool, true, false, ◌&&◌, cond, if◌then◌else◌, List, [], ◌∷◌, ◌++◌, length, drop, get_or, map, Option, Some, None, option_map, ℤ, Result, Ok, Err, refl, sym, ap, ◌∙◌, append_assoc}
use Rattle.std.specs.Option.{ok_or}
use Rattle.std.specs.List.{list_all}
use Rattle.std.proofs.Math.Bool.{and-false}
use Rattle.std.proofs.lemmas.List.{append-nil, drop_all}
use Rattle.std.proofs.Math.Seq.{drop-cons}
use Rattle.std.proofs.Math.Numerals.{add-one}
use Rattle.asm_text.specs.Numbers.{nearest, number_of}
use Rattle.rv_asm.specs.declared.AsmCause.{AsmCause}
use Rattle.rv_asm.specs.declared.AsmCause.TheVariants as causes
use Rattle.rv_asm.specs.declared.operands.Kind.{Kind}
use Rattle.rv_asm.specs.declared.operands.Fields.{Fields}
use Rattle.rv_asm.specs.Operands.{is_of, with_operand, no_fields, are_of, fields_behind, fields_of, is_spelled}
use Rattle.rv_asm.specs.Answers.{nearest_value}

-- What operands give behind those that gave f.
abbrev pub given : List Kind → List (List ℕ) → Fields → Result Fields AsmCause
given kinds texts f = if are_of kinds texts then Ok (fields_behind f kinds texts) else Err causes.Operand

pub given-fields_of : (kinds : List Kind) (texts : List (List ℕ))
    → given kinds texts no_fields ≡ if are_of kinds texts then Ok (fields_of kinds texts) else Err causes.Operand
unfolding fields_of
given-fields_of kinds texts = refl

are_of-lengths : (kinds : List Kind) (texts : List (List ℕ)) → (length kinds ≡ length texts → ⊥) → are_of kinds texts ≡ false
are_of-lengths [] [] far = absurd (far refl)
are_of-lengths [] (text ∷ texts) far = refl
are_of-lengths (kind ∷ kinds) [] far = refl
are_of-lengths (kind ∷ kinds) (text ∷ texts) far =
    ap (λ b. is_of kind text && b) (are_of-lengths kinds texts (λ e. far (ap suc e))) ∙ and-false (is_of kind text)

pub refused-lengths : (kinds : List Kind) (texts : List (List ℕ)) → (length kinds ≡ length texts → ⊥)
    → Err causes.Operand ≡ if are_of kinds texts then Ok (fields_of kinds texts) else Err causes.Operand
refused-lengths kinds texts far =
    sym (ap (λ b. cond b (Ok (fields_of kinds texts)) (Err causes.Operand)) (are_of-lengths kinds texts far))

given-cons : (kind : Kind) (kinds : List Kind) (text : List ℕ) (texts : List (List ℕ)) (f : Fields) → is_of kind text ≡ true
    → given (kind ∷ kinds) (text ∷ texts) f ≡ given kinds texts (with_operand kind text f)
given-cons kind kinds text texts f h = rw h refl

given-other : (kind : Kind) (kinds : List Kind) (text : List ℕ) (texts : List (List ℕ)) (f : Fields) → is_of kind text ≡ false
    → given (kind ∷ kinds) (text ∷ texts) f ≡ Err causes.Operand
given-other kind kinds text texts f h = rw h refl

given-both : (kinds : List Kind) (texts : List (List ℕ)) (i : ℕ) (k : Kind) (t : List ℕ) (f : Fields) → i < length kinds → i < length texts
    → given (drop i kinds) (drop i texts) f
    ≡ given (get_or kinds i k ∷ drop (i + 1) kinds) (get_or texts i t ∷ drop (i + 1) texts) f
given-both kinds texts i k t f left right =
    ap (λ ks. given ks (drop i texts) f) (drop-cons kinds i k left ∙ ap (λ n. get_or kinds i k ∷ drop n kinds) (sym (add-one i)))
    ∙ ap (λ ts. given (get_or kinds i k ∷ drop (i + 1) kinds) ts f)
    (drop-cons texts i t right ∙ ap (λ n. get_or texts i t ∷ drop n texts) (sym (add-one i)))

-- An answer on an operand says whether it is of the kind.
abbrev pub kind_answer : Bool → Result (Unit {0}) AsmCause
kind_answer right = if right then Ok tt else Err causes.Operand

kind-ok : (b : Bool) (done : Unit {0}) → Ok done ≡ kind_answer b → b ≡ true
kind-ok true done e = refl
kind-ok false done e = cc

kind-err : (b : Bool) (cause : AsmCause) → Err cause ≡ kind_answer b → (b ≡ false) × (cause ≡ causes.Operand)
kind-err true cause e = cc
kind-err false cause e = (refl, cc)

pub given-more : (kinds : List Kind) (texts : List (List ℕ)) (i : ℕ) (k kind : Kind) (t text : List ℕ) (f new : Fields) (done : Unit {0})
    → i < length kinds → i < length texts → kind ≡ get_or kinds i k → text ≡ get_or texts i t
    → Ok done ≡ kind_answer (is_of kind text) → new ≡ with_operand kind text f
    → given (drop i kinds) (drop i texts) f ≡ given (drop (i + 1) kinds) (drop (i + 1) texts) new
given-more kinds texts i k kind t text f new done left right is_kind is_text answer added =
    given-both kinds texts i k t f left right
    ∙ (ap (λ x. given (x ∷ drop (i + 1) kinds) (get_or texts i t ∷ drop (i + 1) texts) f) (sym is_kind)
    ∙ (ap (λ x. given (kind ∷ drop (i + 1) kinds) (x ∷ drop (i + 1) texts) f) (sym is_text)
    ∙ (given-cons kind (drop (i + 1) kinds) text (drop (i + 1) texts) f (kind-ok (is_of kind text) done answer)
    ∙ ap (given (drop (i + 1) kinds) (drop (i + 1) texts)) (sym added))))

pub given-refused : (kinds : List Kind) (texts : List (List ℕ)) (i : ℕ) (k kind : Kind) (t text : List ℕ) (f : Fields) (cause : AsmCause)
    → i < length kinds → i < length texts → kind ≡ get_or kinds i k → text ≡ get_or texts i t
    → Err cause ≡ kind_answer (is_of kind text) → given (drop i kinds) (drop i texts) f ≡ Err cause
given-refused kinds texts i k kind t text f cause left right is_kind is_text answer =
    let said = kind-err (is_of kind text) cause answer in
    given-both kinds texts i k t f left right
    ∙ (ap (λ x. given (x ∷ drop (i + 1) kinds) (get_or texts i t ∷ drop (i + 1) texts) f) (sym is_kind)
    ∙ (ap (λ x. given (kind ∷ drop (i + 1) kinds) (x ∷ drop (i + 1) texts) f) (sym is_text)
    ∙ (given-other kind (drop (i + 1) kinds) text (drop (i + 1) texts) f said.0 ∙ ap Err (sym said.1))))

pub given-end : (kinds : List Kind) (texts : List (List ℕ)) (i : ℕ) (f : Fields) → length kinds ≤ i → length texts ≤ i
    → given (drop i kinds) (drop i texts) f ≡ Ok f
given-end kinds texts i f left right =
    ap (λ ks. given ks (drop i texts) f) (drop_all i kinds left) ∙ ap (λ ts. given [] ts f) (drop_all i texts right)

-- The values of numbers

-- Numbers in front of others, if there is no cause to refuse those.
abbrev pub in_front : List ℤ → Result (List ℤ) AsmCause → Result (List ℤ) AsmCause
in_front front (Ok more) = Ok (front ++ more)
in_front front (Err cause) = Err cause

abbrev pub values_of : List (List ℕ) → Result (List ℤ) AsmCause
values_of texts = if list_all is_spelled texts then Ok (map nearest_value texts) else Err causes.Number

pub in_front-none : (r : Result (List ℤ) AsmCause) → r ≡ in_front [] r
in_front-none (Ok more) = refl
in_front-none (Err cause) = refl

in_front-push : (front : List ℤ) (text : List ℕ) (texts : List (List ℕ)) (rest : Bool)
    → in_front front (cond rest (Ok (nearest_value text ∷ map nearest_value texts)) (Err causes.Number))
    ≡ in_front (front ++ nearest_value text ∷ []) (cond rest (Ok (map nearest_value texts)) (Err causes.Number))
in_front-push front text texts true = ap Ok (simp append_assoc)
in_front-push front text texts false = refl

values_of-drop : (texts : List (List ℕ)) (i : ℕ) (t text : List ℕ) → i < length texts → text ≡ get_or texts i t
    → values_of (drop i texts) ≡ values_of (text ∷ drop (i + 1) texts)
values_of-drop texts i t text below is_text =
    ap values_of (drop-cons texts i t below
    ∙ (ap (λ n. get_or texts i t ∷ drop n texts) (sym (add-one i)) ∙ ap (λ x. x ∷ drop (i + 1) texts) (sym is_text)))

-- The value of a text that spells a number, as it is held.
spelled-some : (text : List ℕ) (o : Option ℤ) (n : ℤ) → number_of text ≡ o → Ok n ≡ ok_or (option_map nearest o) causes.Number
    → (is_spelled text ≡ true) × (n ≡ nearest_value text)
spelled-some text (Some z) n known e =
    let same : n ≡ nearest z = cc in rw known (refl, same)
spelled-some text None n known e = cc

spelled-none : (text : List ℕ) (o : Option ℤ) (cause : AsmCause) → number_of text ≡ o
    → Err cause ≡ ok_or (option_map nearest o) causes.Number → (is_spelled text ≡ false) × (cause ≡ causes.Number)
spelled-none text (Some z) cause known e = cc
spelled-none text None cause known e = let same : cause ≡ causes.Number = cc in rw known (refl, same)

values_of-spelled : (text : List ℕ) (texts : List (List ℕ)) (front : List ℤ) → is_spelled text ≡ true
    → in_front front (values_of (text ∷ texts)) ≡ in_front (front ++ nearest_value text ∷ []) (values_of texts)
values_of-spelled text texts front h =
    ap (λ b. in_front front (cond (b && list_all is_spelled texts) (Ok (nearest_value text ∷ map nearest_value texts)) (Err causes.Number))) h
    ∙ in_front-push front text texts (list_all is_spelled texts)

values_of-unspelled : (text : List ℕ) (texts : List (List ℕ)) (front : List ℤ) → is_spelled text ≡ false
    → in_front front (values_of (text ∷ texts)) ≡ Err causes.Number
values_of-unspelled text texts front h =
    ap (λ b. in_front front (cond (b && list_all is_spelled texts) (Ok (nearest_value text ∷ map nearest_value texts)) (Err causes.Number))) h

pub in_front-more : (front new : List ℤ) (texts : List (List ℕ)) (i : ℕ) (t text : List ℕ) (n : ℤ) → i < length texts
    → text ≡ get_or texts i t → Ok n ≡ ok_or (option_map nearest (number_of text)) causes.Number → new ≡ front ++ n ∷ []
    → in_front front (values_of (drop i texts)) ≡ in_front new (values_of (drop (i + 1) texts))
in_front-more front new texts i t text n below is_text answer pushed =
    let said = spelled-some text (number_of text) n refl answer in
    ap (in_front front) (values_of-drop texts i t text below is_text)
    ∙ (values_of-spelled text (drop (i + 1) texts) front said.0
    ∙ ap (λ xs. in_front xs (values_of (drop (i + 1) texts)))
    (ap (λ m. front ++ m ∷ []) (sym said.1) ∙ sym pushed))

pub in_front-refused : (front : List ℤ) (texts : List (List ℕ)) (i : ℕ) (t text : List ℕ) (cause : AsmCause) → i < length texts
    → text ≡ get_or texts i t → Err cause ≡ ok_or (option_map nearest (number_of text)) causes.Number
    → in_front front (values_of (drop i texts)) ≡ Err cause
in_front-refused front texts i t text cause below is_text answer =
    let said = spelled-none text (number_of text) cause refl answer in
    ap (in_front front) (values_of-drop texts i t text below is_text)
    ∙ (values_of-unspelled text (drop (i + 1) texts) front said.0 ∙ ap Err (sym said.1))

pub in_front-end : (front : List ℤ) (texts : List (List ℕ)) (i : ℕ) → length texts ≤ i
    → in_front front (values_of (drop i texts)) ≡ Ok front
in_front-end front texts i past = ap (λ ts. in_front front (values_of ts)) (drop_all i texts past) ∙ ap Ok (append-nil front)
