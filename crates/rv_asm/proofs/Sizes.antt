-- A statement's bytes are as many as its size says, and so the address behind a line is that of its last byte and 1.
use Rattle.std.proofs.Common.{◌≡◌, ◌≤◌, ℕ, ◌+◌, ◌*◌, Bool, true, false, not, cond, List, [], ◌∷◌, ◌++◌, length, map, Option, Some, None, Result, Ok, Err, ℤ, refl, sym, ap, ◌∙◌, arith}
use Rattle.std.proofs.lemmas.List.{length-append, length-replicate}
use Rattle.std.specs.List.{flat_map}
use Rattle.std.proofs.lemmas.Bool.{ltb-false}
use Rattle.rv_core.specs.declared.instr.Instr.{Instr}
use Rattle.rv_asm.specs.declared.AsmCause.{AsmCause}
use Rattle.rv_asm.specs.declared.AsmCause.TheVariants as causes
use Rattle.rv_asm.specs.declared.labels.Definition.{Definition}
use Rattle.rv_asm.specs.declared.line.Line.{Line}
use Rattle.rv_asm.specs.declared.statement.Width.{Width}
use Rattle.rv_asm.specs.declared.statement.Width.TheVariants as widths
use Rattle.rv_asm.specs.declared.statement.Statement.{Statement}
use Rattle.rv_asm.specs.declared.statement.Statement.TheVariants.{Plain, Upper, Branch, Jump, LoadNumber, LoadAddress, Bytes, Numbers, Zeros, Align}
use Rattle.rv_asm.specs.Encoding.{instructions_of, data_of, word_of, word_bytes, number_bytes, statement_bytes, statement_size, width_size, count_of, is_short, is_undefined, fits_values, is_big, limit, bytes_of}
use Rattle.rv_asm.specs.Line.{is_twice, line_bytes, line_end}

width-size : (width : Width) (n : ℤ) → length (number_bytes width n) ≡ width_size width
width-size widths.Byte n = refl
width-size widths.Word n = refl
width-size widths.Dword n = refl

numbers-size : (width : Width) (ns : List ℤ) → length (flat_map (number_bytes width) ns) ≡ width_size width * length ns
numbers-size width [] = omega arith
numbers-size width (n ∷ ns) =
    let own = width-size width n in
    let more = numbers-size width ns in
    length-append (number_bytes width n) (flat_map (number_bytes width) ns) ∙ omega (arith, own, more)

short-size : (short : Bool) (i j k : Instr)
    → length (flat_map word_bytes (map word_of (cond short (i ∷ []) (j ∷ k ∷ []))) ++ []) ≡ cond short 4 8
short-size true i j k = refl
short-size false i j k = refl

statement_bytes-size : (find : List ℕ → Option Definition) (at : ℕ) (s : Statement)
    → length (statement_bytes find at s) ≡ statement_size at s
unfolding instructions_of data_of
statement_bytes-size find at (Plain o rd rs1 rs2 n) = refl
statement_bytes-size find at (Upper o rd n) = refl
statement_bytes-size find at (Branch o rs1 rs2 label) = refl
statement_bytes-size find at (Jump rd label) = refl
statement_bytes-size find at (LoadNumber rd n) = short-size (is_short n) _ _ _
statement_bytes-size find at (LoadAddress rd label) = refl
statement_bytes-size find at (Bytes bytes) = refl
statement_bytes-size find at (Numbers width ns) = numbers-size width ns
statement_bytes-size find at (Zeros n) = length-replicate (count_of n) 0
statement_bytes-size find at (Align n) = length-replicate (statement_size at (Align n)) 0

-- Bytes are taken where nothing refuses them.
taken : (undefined fits big : Bool) (given bytes : List ℕ)
    → cond undefined (Err causes.Label) (cond (not fits) (Err causes.Range) (cond big (Err causes.Big) (Ok given))) ≡ Ok bytes
    → (big ≡ false) × (given ≡ bytes)
taken true fits big given bytes e = cc
taken false false big given bytes e = cc
taken false true true given bytes e = cc
taken false true false given bytes e = let same : given ≡ bytes = cc in (refl, same)

module _ (find : List ℕ → Option Definition) (at : ℕ) (s : Statement) (bytes : List ℕ) (ok : bytes_of find at s ≡ Ok bytes) where
  bytes_of-parts : (is_big at s ≡ false) × (statement_bytes find at s ≡ bytes)
  unfolding bytes_of
  bytes_of-parts = taken (is_undefined find s) (fits_values find at s) (is_big at s) (statement_bytes find at s) bytes ok

  -- What is accepted ends at the limit at most.
  pub within-accepted : at + statement_size at s ≤ limit
  within-accepted = ltb-false limit (at + statement_size at s) bytes_of-parts.0

  bytes_of-size : at + statement_size at s ≡ at + length bytes
  bytes_of-size =
      let long : length bytes ≡ statement_size at s = ap length (sym bytes_of-parts.1) ∙ statement_bytes-size find at s in
      omega (arith, long)

once : (twice : Bool) (given : Result (List ℕ) AsmCause) (bytes : List ℕ)
    → cond twice (Err causes.Twice) given ≡ Ok bytes → given ≡ Ok bytes
once true given bytes e = cc
once false given bytes e = e

said-size : (find : List ℕ → Option Definition) (number at : ℕ) (label : Option (List ℕ)) (said : Result (Option Statement) AsmCause)
    (bytes : List ℕ) → line_bytes find number at (record { label = label; statement = said }) ≡ Ok bytes
    → line_end at (record { label = label; statement = said }) ≡ at + length bytes
unfolding line_bytes
said-size find number at label (Ok (Some s)) bytes e =
    bytes_of-size find at s bytes (once (is_twice find number label) _ bytes e)
said-size find number at label (Ok None) bytes e =
    let none : Ok [] ≡ Ok bytes = once (is_twice find number label) (Ok []) bytes e in
    let same : [] ≡ bytes = cc in ap (λ (bs : List ℕ). at + length bs) same
said-size find number at label (Err cause) bytes e = cc

-- The address behind an accepted line is its own and the number of its bytes.
pub line_end-bytes : (find : List ℕ → Option Definition) (number at : ℕ) (line : Line) (bytes : List ℕ)
    → line_bytes find number at line ≡ Ok bytes → line_end at line ≡ at + length bytes
line_end-bytes find number at line bytes e = said-size find number at line.label line.statement bytes e

said-within : (find : List ℕ → Option Definition) (number at : ℕ) (label : Option (List ℕ)) (said : Result (Option Statement) AsmCause)
    (bytes : List ℕ) → at ≤ limit → line_bytes find number at (record { label = label; statement = said }) ≡ Ok bytes
    → line_end at (record { label = label; statement = said }) ≤ limit
unfolding line_bytes
said-within find number at label (Ok (Some s)) bytes here e =
    let size = within-accepted find at s bytes (once (is_twice find number label) _ bytes e) in omega (arith, size)
said-within find number at label (Ok None) bytes here e = omega arith
said-within find number at label (Err cause) bytes here e = cc

-- The address behind an accepted line is at the limit at most, if its own is.
pub line_end-within : (find : List ℕ → Option Definition) (number at : ℕ) (line : Line) (bytes : List ℕ) → at ≤ limit
    → line_bytes find number at line ≡ Ok bytes → line_end at line ≤ limit
line_end-within find number at line bytes here e = said-within find number at line.label line.statement bytes here e
