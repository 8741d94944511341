use Rattle.std.proofs.Common.{◌≡◌, ℕ, ◌<◌, ◌^◌, ◌↔◌, arith, decimal, refl}
use Rattle.bas_fields.proofs.Decimals.{none-exact, not_decimal, parsed-is-decimal, some-exact, Spells-is-decimal, unparsed-is-no-decimal}
use Rattle.bas_fields.proofs.Spellings.{Spells-decimal}
use Rattle.bas_fields.proofs.numbers.read_decimal.Goals as goal

pub returns-then-not-begins_plainly-clause-exact : goal.returns-then-not-begins_plainly-clause-exact
returns-then-not-begins_plainly-clause-exact c =
    none-exact (2 ^ 63) c.args.text.now
    (λ n small. not_decimal n c.args.text.now (omega arith) (rw c.as_bytes.ensures.value at (c.if-not-begins_plainly.ensures.other refl)))

read : (c : goal.Then-number-le-GREATEST) (n : ℕ) → n < 2 ^ 63 → (c.in-Ok.number ≡ n) ↔ (c.args.text.now ≡ decimal n)
read c n small =
    parsed-is-decimal c.args.text.now c.parse.result c.in-Ok.number n c.in-Ok.is c.parse.ensures.value.0
    (rw c.as_bytes.ensures.value at (c.if-not-begins_plainly.ensures.plain refl))
    (rw c.as_bytes.ensures.value at (c.if-not-begins_plainly.ensures.shortest refl)) (omega arith)

pub returns-in-Ok-clause-exact : goal.returns-in-Ok-clause-exact
returns-in-Ok-clause-exact c = some-exact (2 ^ 63) c.args.text.now c.in-Ok.number (omega arith) (read c)

pub returns-in-Ok-clause-spelled : goal.returns-in-Ok-clause-spelled
returns-in-Ok-clause-spelled c =
    rw ((read c c.in-Ok.number (omega arith)).0 refl) (Spells-decimal c.in-Ok.number (omega arith))

large : (c : goal.Else-number-le-GREATEST) (n : ℕ) → n < 2 ^ 63 → c.args.text.now ≡ decimal n → ⊥
large c n small e =
    let same = (parsed-is-decimal c.args.text.now c.parse.result c.in-Ok.number n c.in-Ok.is c.parse.ensures.value.0
    (rw c.as_bytes.ensures.value at (c.if-not-begins_plainly.ensures.plain refl))
    (rw c.as_bytes.ensures.value at (c.if-not-begins_plainly.ensures.shortest refl)) (omega arith)).1 e in
    omega arith

pub returns-in_default-clause-exact : goal.returns-in_default-clause-exact
returns-in_default-clause-exact c = none-exact (2 ^ 63) c.args.text.now (large c)

pub returns-in_default-clause-refused : goal.returns-in_default-clause-refused
returns-in_default-clause-refused c n small spelled = large c n small (Spells-is-decimal n c.args.text.now (omega arith) spelled)

pub returns-in_default-2-clause-exact : goal.returns-in_default-2-clause-exact
returns-in_default-2-clause-exact c =
    none-exact (2 ^ 63) c.args.text.now (λ n small. unparsed-is-no-decimal c.args.text.now c.parse.result c.in_default.field-0 n c.in_default.is c.parse.ensures.value.0 (omega arith))

pub returns-in_default-2-clause-refused : goal.returns-in_default-2-clause-refused
returns-in_default-2-clause-refused c n small spelled =
    unparsed-is-no-decimal c.args.text.now c.parse.result c.in_default.field-0 n c.in_default.is c.parse.ensures.value.0 (omega arith)
    (Spells-is-decimal n c.args.text.now (omega arith) spelled)
