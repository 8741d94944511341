-- The bytes of a statement at an address, under the labels of the text.
use Rattle.std.specs.Prelude.{ℕ, ◌+◌, ◌-◌, ◌*◌, ◌%◌, ◌^◌, Bool, true, false, not, ◌&&◌, if◌then◌else◌, nat_lt, List, [], ◌∷◌, ◌++◌, length, take, map, replicate, Option, is_some, is_none, unwrap_or, ℤ, pos, negsuc, ◌-ℤ◌, ◌*ℤ◌, int_lt, Result, Ok, Err}
use Rattle.std.specs.Option.{option_map_or}
use Rattle.std.specs.List.{list_all, flat_map}
use Rattle.std.specs.Int.{to_le_bytes, cast_unsigned, int_rem_euclid, is_negative, w32, w128}
use Rattle.rv_core.specs.declared.instr.Op.{Op}
use Rattle.rv_core.specs.declared.instr.Op.TheVariants as op
use Rattle.rv_core.specs.declared.instr.Instr.{Instr}
use Rattle.rv_core.specs.Encoding.{encoded, is_signed_by, is_below}
use Rattle.rv_asm.specs.declared.AsmCause.{AsmCause}
use Rattle.rv_asm.specs.declared.AsmCause.TheVariants as causes
use Rattle.rv_asm.specs.declared.statement.Width.{Width}
use Rattle.rv_asm.specs.declared.statement.Width.TheVariants as widths
use Rattle.rv_asm.specs.declared.statement.Statement.{Statement}
use Rattle.rv_asm.specs.declared.statement.Statement.TheVariants.{Plain, Upper, Branch, Jump, LoadNumber, LoadAddress, Bytes, Numbers, Zeros, Align}
use Rattle.rv_asm.specs.declared.labels.Definition.{Definition}

-- Addresses

-- The address of the first byte behind the two headers, and of the last one that those may take.
abbrev pub base : ℕ
base = 0x10078

abbrev pub limit : ℕ
limit = 0x110078

-- How far a label is from an address, if it is defined.
abbrev pub distance : (List ℕ → Option Definition) → ℕ → List ℕ → ℤ
distance find at label = option_map_or (λ d. pos d.address -ℤ pos at) (find label) (pos 0)

-- Instructions

-- A number is the sum of its high part, a multiple of 2^12 in 32 bits, and its low part, of 12 bits
-- with a sign. Both are so modulo 2^32.
abbrev pub residue : ℕ → ℤ → ℤ
residue half z =
    let r = int_rem_euclid z (pos (half + half)) in
    if int_lt r (pos half) then r else r -ℤ pos (half + half)

unfoldable pub low_part : ℤ → ℤ
low_part z = residue (2 ^ 11) z

unfoldable pub high_part : ℤ → ℤ
high_part z = residue (2 ^ 31) (z -ℤ low_part z)

-- The immediate of LUI and AUIPC by the number of a page of 2^12 bytes.
unfoldable pub page_immediate : ℤ → ℤ
page_immediate n = residue (2 ^ 31) (n *ℤ pos (2 ^ 12))

abbrev pub instr : Op → ℕ → ℕ → ℕ → ℤ → Instr
instr o rd rs1 rs2 imm = record { op = o; rd = rd; rs1 = rs1; rs2 = rs2; imm = imm }

-- What ADDI adds, so that `li` takes one instruction.
abbrev pub is_short : ℤ → Bool
is_short n = is_signed_by (2 ^ 11) n

-- The high part of a number by one instruction, and then the low part, which another adds.
abbrev pub two_instructions : Op → Op → ℕ → ℤ → List Instr
two_instructions upper lower rd n =
    instr upper rd 0 0 (high_part n) ∷ instr lower rd rd 0 (low_part n) ∷ []

-- `li`: ADDI from x0 for a short number, else LUI and ADDIW.
abbrev pub number_instructions : ℕ → ℤ → List Instr
number_instructions rd n =
    if is_short n then instr op.Addi rd 0 0 n ∷ [] else two_instructions op.Lui op.Addiw rd n

-- `la`: AUIPC and ADDI.
abbrev pub address_instructions : ℕ → ℤ → List Instr
address_instructions rd d = two_instructions op.Auipc op.Addi rd d

-- The instructions of a statement. A branch and JAL have the distance of their label.
unfoldable pub instructions_of : (List ℕ → Option Definition) → ℕ → Statement → List Instr
instructions_of find at (Plain o rd rs1 rs2 n) = instr o rd rs1 rs2 n ∷ []
instructions_of find at (Upper o rd n) = instr o rd 0 0 (page_immediate n) ∷ []
instructions_of find at (Branch o rs1 rs2 label) = instr o 0 rs1 rs2 (distance find at label) ∷ []
instructions_of find at (Jump rd label) = instr op.Jal rd 0 0 (distance find at label) ∷ []
instructions_of find at (LoadNumber rd n) = number_instructions rd n
instructions_of find at (LoadAddress rd label) = address_instructions rd (distance find at label)
instructions_of find at (Bytes bytes) = []
instructions_of find at (Numbers width ns) = []
instructions_of find at (Zeros n) = []
instructions_of find at (Align n) = []

-- Data

abbrev pub width_size : Width → ℕ
width_size widths.Byte = 1
width_size widths.Word = 4
width_size widths.Dword = 8

-- Half of the numbers that fit the width.
abbrev pub width_half : Width → ℕ
width_half widths.Byte = 2 ^ 7
width_half widths.Word = 2 ^ 31
width_half widths.Dword = 2 ^ 63

-- With a sign or without: from minus half up to twice half, without twice half.
abbrev pub fits_half : ℕ → ℤ → Bool
fits_half half (pos n) = nat_lt n (half + half)
fits_half half (negsuc n) = nat_lt n half

abbrev pub fits_width : Width → ℤ → Bool
fits_width width n = fits_half (width_half width) n

-- The low bytes of a number in two's complement, the lowest first.
abbrev pub number_bytes : Width → ℤ → List ℕ
number_bytes width n = take (width_size width) (to_le_bytes w128 (cast_unsigned w128 n))

abbrev pub count_of : ℤ → ℕ
count_of (pos n) = n
count_of (negsuc n) = 0

-- The zeros up to a multiple of 2^n.
abbrev pub padding : ℕ → ℕ → ℕ
padding at n = (2 ^ n - at % 2 ^ n) % 2 ^ n

-- How many bytes a statement takes at an address.
abbrev pub statement_size : ℕ → Statement → ℕ
statement_size at (Plain o rd rs1 rs2 n) = 4
statement_size at (Upper o rd n) = 4
statement_size at (Branch o rs1 rs2 label) = 4
statement_size at (Jump rd label) = 4
statement_size at (LoadNumber rd n) = if is_short n then 4 else 8
statement_size at (LoadAddress rd label) = 8
statement_size at (Bytes bytes) = length bytes
statement_size at (Numbers width ns) = width_size width * length ns
statement_size at (Zeros n) = count_of n
statement_size at (Align n) = if is_below 13 n then padding at (count_of n) else 0

-- The bytes of a statement that aren't instructions.
unfoldable pub data_of : ℕ → Statement → List ℕ
data_of at (Bytes bytes) = bytes
data_of at (Numbers width ns) = flat_map (number_bytes width) ns
data_of at (Zeros n) = replicate (count_of n) 0
data_of at (Align n) = replicate (statement_size at (Align n)) 0
data_of at (Plain o rd rs1 rs2 n) = []
data_of at (Upper o rd n) = []
data_of at (Branch o rs1 rs2 label) = []
data_of at (Jump rd label) = []
data_of at (LoadNumber rd n) = []
data_of at (LoadAddress rd label) = []

-- Refusals

-- The statement names a label that is undefined.
abbrev pub is_undefined : (List ℕ → Option Definition) → Statement → Bool
is_undefined find (Branch o rs1 rs2 label) = is_none (find label)
is_undefined find (Jump rd label) = is_none (find label)
is_undefined find (LoadAddress rd label) = is_none (find label)
is_undefined find (Plain o rd rs1 rs2 n) = false
is_undefined find (Upper o rd n) = false
is_undefined find (LoadNumber rd n) = false
is_undefined find (Bytes bytes) = false
is_undefined find (Numbers width ns) = false
is_undefined find (Zeros n) = false
is_undefined find (Align n) = false

-- The fields of an instruction fit.
abbrev pub fits_word : Instr → Bool
fits_word i = is_some (encoded i)

-- The values of a statement fit, those of its instructions too.
abbrev pub fits_place : Statement → Bool
fits_place (Plain o rd rs1 rs2 n) = true
fits_place (Upper o rd n) = is_below (2 ^ 20) n
fits_place (Branch o rs1 rs2 label) = true
fits_place (Jump rd label) = true
fits_place (LoadNumber rd n) = is_signed_by (2 ^ 31) n
fits_place (LoadAddress rd label) = true
fits_place (Bytes bytes) = true
fits_place (Numbers width ns) = list_all (fits_width width) ns
fits_place (Zeros n) = not (is_negative n)
fits_place (Align n) = is_below 13 n

abbrev pub fits_values : (List ℕ → Option Definition) → ℕ → Statement → Bool
fits_values find at s = fits_place s && list_all fits_word (instructions_of find at s)

-- Bytes

-- The word of an instruction whose fields fit, and its bytes, the lowest first.
abbrev pub word_of : Instr → ℕ
word_of i = unwrap_or (encoded i) 0

abbrev pub word_bytes : ℕ → List ℕ
word_bytes w = to_le_bytes w32 w

-- The bytes of a statement.
abbrev pub statement_bytes : (List ℕ → Option Definition) → ℕ → Statement → List ℕ
statement_bytes find at s =
    flat_map word_bytes (map word_of (instructions_of find at s)) ++ data_of at s

-- They take the bytes behind the headers past the limit.
abbrev pub is_big : ℕ → Statement → Bool
is_big at s = nat_lt limit (at + statement_size at s)

-- The bytes of a statement, or the first cause for which its labels, its values and its size refuse
-- it.
unfoldable pub bytes_of : (List ℕ → Option Definition) → ℕ → Statement → Result (List ℕ) AsmCause
bytes_of find at s =
    if is_undefined find s then Err causes.Label else
    (if not (fits_values find at s) then Err causes.Range else
    (if is_big at s then Err causes.Big else Ok (statement_bytes find at s)))
