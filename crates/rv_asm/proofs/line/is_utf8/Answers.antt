use Rattle.std.proofs.Common.{◌∙◌}
use Rattle.std.specs.Str.{IsUtf8, is_utf8}
use Rattle.std.proofs.lemmas.Str.{IsUtf8-from_is_utf8, is_utf8-from_IsUtf8}
use Rattle.std.proofs.lemmas.Bool.Decides.{same_from_decides}
use Rattle.rv_asm.proofs.Utf8.{is_ok-Decides}
use Rattle.rv_asm.proofs.line.is_utf8.Goals as goal

pub returns : goal.returns
returns c =
    let bytes = c.args.bytes.now in
    c.is_ok.ensures.value
    ∙ same_from_decides _ (is_utf8 bytes) (is_ok-Decides (IsUtf8 bytes) _ _ c.from_utf8.result c.from_utf8.ensures.cases)
    (IsUtf8-from_is_utf8 bytes, is_utf8-from_IsUtf8 bytes)
