use Rattle.std.proofs.Common.{◌≡◌, ◌≤◌, ◌^◌, drop}
use Rattle.asm_text.proofs.NumberLists.{counted}
use Rattle.asm_text.proofs.numbers.magnitude.Given as goal

abbrev pub invariant-loop-byte : goal.invariant-loop-byte
invariant-loop-byte l = record {
  value : counted l.base 0 l.digits ≡ counted l.base l.number (drop l.byte-index l.digits);
  bound : l.number ≤ 2 ^ 64;
}
