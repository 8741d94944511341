use Rattle.hex.proofs.HexLemmas.{decode_of-encode_lower}
use Rattle.bas_fields.proofs.numbers.hex_text.Goals as goal

pub returns-clause-reversible : goal.returns-clause-reversible
returns-clause-reversible c =
    rw (c.into_bytes.ensures.value, c.in_ok-encode.ensures) (decode_of-encode_lower c.args.bytes.now (λ i. (c.type_inv.bytes i).fits))
