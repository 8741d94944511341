-- The definitions computed on a few texts.
use Rattle.std.proofs.Common.{◌≡◌, [], ◌∷◌, ◌++◌, Some, None, Ok, Err, pos, negsuc, refl}
use Rattle.std.specs.Prelude.{codes}
use Rattle.std.specs.Str.{is_utf8, chars}
use lib.Utf8 as utf8
use Rattle.rv_core.specs.Encoding.{encoded}
use Rattle.rv_asm.specs.declared.AsmCause.TheVariants as causes
use Rattle.rv_asm.specs.declared.AsmError.TheVariants.{Line}
use Rattle.asm_text.specs.Text.{quoted}
use Rattle.asm_text.specs.Numbers.{number_of}
use Rattle.asm_text.specs.Registers.{register_of}
use Rattle.rv_asm.specs.Mnemonics.{op_named, pseudo_named, directive_named}
use Rattle.rv_asm.specs.Operands.{base, fields_of}
use Rattle.rv_asm.specs.Statement.{word_named}
use Rattle.rv_asm.specs.Encoding.{low_part, high_part, page_immediate, instructions_of, data_of, bytes_of}
use Rattle.asm_text.specs.Text.{before, behind}
use Rattle.rv_asm.specs.Line.{uncommented, label_text, statement_text, first_word, operand_texts, has_fault, label_of, statement_in, read, line_bytes}
use Rattle.rv_asm.specs.Program.{definition_in, places_in, gathered, program_of}

hexadecimal : number_of (codes "0x01F") ≡ Some (pos 31)
hexadecimal = refl

negative : number_of (codes "-010") ≡ Some (negsuc 9)
negative = refl

no_digits : number_of (codes "0x") ≡ None
no_digits = refl

frame_pointer : register_of (codes "fp") ≡ Some 8
unfolding register_of
frame_pointer = refl

no_register : register_of (codes "x32") ≡ None
unfolding register_of
no_register = refl

-- "h\n"
text : quoted (34 ∷ 104 ∷ 92 ∷ 110 ∷ 34 ∷ []) ≡ Some (104 ∷ 10 ∷ [])
text = refl

-- what computes on a text that is written out
unfoldable computed : Unit {0}
unfolding is_utf8 chars utf8.encode encoded register_of op_named pseudo_named directive_named word_named base fields_of low_part high_part page_immediate instructions_of data_of bytes_of before behind uncommented label_text statement_text first_word operand_texts has_fault label_of statement_in read line_bytes definition_in places_in gathered program_of
computed = tt

store_double : program_of (codes "sd a0, 8(sp)") ≡ Ok (0x23 ∷ 0x34 ∷ 0xa1 ∷ 0x00 ∷ [])
unfolding computed
store_double = refl

load_long : program_of (codes "li t0, 305419896") ≡ Ok (0xb7 ∷ 0x52 ∷ 0x34 ∷ 0x12 ∷ 0x9b ∷ 0x82 ∷ 0x82 ∷ 0x67 ∷ [])
unfolding computed
load_long = refl

own_jump : program_of (codes "l: j l") ≡ Ok (0x6f ∷ 0x00 ∷ 0x00 ∷ 0x00 ∷ [])
unfolding computed
own_jump = refl

bytes_behind : program_of (codes ".byte 1 # one" ++ 10 ∷ codes ".align 2") ≡ Ok (1 ∷ 0 ∷ 0 ∷ 0 ∷ [])
unfolding computed
bytes_behind = refl

unknown : program_of (codes "nop" ++ 10 ∷ codes "foo") ≡ Err (Line 2 causes.Mnemonic)
unfolding computed
unknown = refl

first_refused : program_of (codes "j m" ++ 10 ∷ codes "foo") ≡ Err (Line 1 causes.Label)
unfolding computed
first_refused = refl

label_of_a_refused_line : program_of (codes "j m" ++ 10 ∷ codes "m: foo") ≡ Err (Line 2 causes.Mnemonic)
unfolding computed
label_of_a_refused_line = refl

operand_before_number : program_of (codes ".byte 1x, foo") ≡ Err (Line 1 causes.Operand)
unfolding computed
operand_before_number = refl
