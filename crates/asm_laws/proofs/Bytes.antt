-- The bytes of instructions in memory, and the words that the machine fetches there.
use Rattle.std.proofs.Common.{◌≡◌, ℕ, ◌+◌, ◌*◌, ◌^◌, ◌≤◌, ◌<◌, ◌/◌, ◌%◌, Bool, true, false, cond, eqb, ◌&&◌, not, List, [], ◌∷◌, ◌++◌, length, map, Option, Some, None, Result, Ok, Err, refl, sym, ap, subst, ◌∙◌, arith, lit<, rules}
use Rattle.std.specs.List.{flat_map}
use Rattle.std.specs.Option.{unwrap_or}
use Rattle.std.proofs.lemmas.Bool.{ltb-true, ltb-false}
use Rattle.rv_core.specs.declared.context.Context.{Context}
use Rattle.rv_core.specs.declared.instr.Instr.{Instr}
use Rattle.rv_core.specs.declared.instr.Op.{Op}
use Rattle.rv_core.specs.declared.instr.Op.TheVariants as op
use Rattle.rv_core.specs.declared.listing.Layout.{Layout}
use Rattle.rv_core.specs.declared.listing.Layout.TheVariants.{U, J, I, S, B, R, Shift, ShiftW, Ignored, Whole}
use Rattle.rv_core.specs.Listing.{HasRoom, form, has_rd, has_rs1, has_rs2}
use Rattle.rv_core.specs.Encoding.{is_register, has_registers, is_encodable, is_immediate, spelling, unsigned_by, is_signed_by, encoded}
use Rattle.rv_core.specs.Memory.{Memory, fetched}
use Rattle.rv_core.specs.Rows.{word}
use Rattle.rv_core.specs.Machine.{instructions}
use Rattle.rv_core.proofs.Signs.{unsigned_by-bound, is_below-bound}
use Rattle.rv_core.proofs.Spelled.{and_true, equal}
use Rattle.rv_asm.specs.declared.AsmCause.{AsmCause}
use Rattle.rv_asm.specs.declared.AsmCause.TheVariants as causes
use Rattle.rv_asm.specs.declared.labels.Definition.{Definition}
use Rattle.rv_asm.specs.declared.statement.Statement.{Statement}
use Rattle.rv_asm.specs.Encoding.{limit, word_of, word_bytes, fits_values, is_undefined, is_big, statement_size, instructions_of, data_of, statement_bytes, bytes_of}
use Rattle.rv_asm.specs.Program.{bytes_or_none}
use Rattle.asm_laws.specs.Code.{HoldsCode}
use Rattle.asm_laws.proofs.Run.{final}

-- Words have 32 bits

room : (o : Op) → HasRoom (form o)
room op.Lui = lit< tt
room _ = search rules

spelling-bound : (f : Layout) (i : Instr) → HasRoom f → i.rd < cond (has_rd f) 32 1 → i.rs1 < cond (has_rs1 f) 32 1 → i.rs2 < cond (has_rs2 f) 32 1
    → is_immediate f i.imm ≡ true → spelling f i < 2 ^ 32
spelling-bound (U opcode) i r a b c h =
    let parts = and_true (is_signed_by (2 ^ 31) i.imm) (eqb (unsigned_by (2 ^ 31) i.imm % 2 ^ 12) 0) h in
    let whole : unsigned_by (2 ^ 31) i.imm % 2 ^ 12 ≡ 0 = equal _ _ parts.1 in
    let in_n = unsigned_by-bound (2 ^ 31) i.imm parts.0 in
    omega arith
spelling-bound (J opcode) i r a b c h = omega arith
spelling-bound (I opcode f3) i r a b c h = let in_n = unsigned_by-bound (2 ^ 11) i.imm h in omega arith
spelling-bound (S opcode f3) i r a b c h = omega arith
spelling-bound (B opcode f3) i r a b c h = omega arith
spelling-bound (R opcode f3 f7) i r a b c h = omega arith
spelling-bound (Shift opcode f3 f6) i r a b c h = let in_n = is_below-bound (2 ^ 6) (2 ^ 6) i.imm h in omega arith
spelling-bound (ShiftW opcode f3 f7) i r a b c h = let in_n = is_below-bound (2 ^ 5) (2 ^ 5) i.imm h in omega arith
spelling-bound (Ignored opcode f3) i r a b c h = omega arith
spelling-bound (Whole word) i r a b c h = omega arith

encodable-bound : (f : Layout) (i : Instr) → HasRoom f → is_encodable f i ≡ true → spelling f i < 2 ^ 32
encodable-bound f i r h =
    let e = and_true (has_registers (has_rd f) (has_rs1 f) (has_rs2 f) i) (is_immediate f i.imm) h in
    let q = and_true (is_register (has_rd f) i.rd && is_register (has_rs1 f) i.rs1) (is_register (has_rs2 f) i.rs2) e.0 in
    let p = and_true (is_register (has_rd f) i.rd) (is_register (has_rs1 f) i.rs1) q.0 in
    spelling-bound f i r (ltb-true _ _ p.0) (ltb-true _ _ p.1) (ltb-true _ _ q.1) e.1

word-cond : (i : Instr) (b : Bool) → is_encodable (form i.op) i ≡ b → unwrap_or (cond b (Some (spelling (form i.op) i)) None) 0 < 2 ^ 32
word-cond i true h = encodable-bound (form i.op) i (room i.op) h
word-cond i false h = lit< tt

word_of-bound : (i : Instr) → word_of i < 2 ^ 32
unfolding encoded
word_of-bound i = word-cond i (is_encodable (form i.op) i) refl

-- Fetching

-- The words of the instructions can be fetched in a row.
abbrev pub HoldsWords : Memory → ℕ → List Instr → Type 0
HoldsWords m at [] = Unit {0}
HoldsWords m at (i ∷ more) = (fetched m at ≡ Some (word_of i)) × HoldsWords m (word (at + 4)) more

fetched-bytes : (m : Memory) (at w : ℕ) (more : List ℕ) → w < 2 ^ 32 → HoldsCode m at (word_bytes w ++ more)
    → (fetched m at ≡ Some w) × HoldsCode m (word (at + 4)) more
fetched-bytes m at w more h held =
    let whole : w % 256 + (w / 256 % 256 + (w / 256 ^ 2 % 256 + (w / 256 ^ 3 % 256 + 0 * 256) * 256) * 256) * 256 ≡ w = omega arith in
    let behind : ((((at + 1) % 2 ^ 64 + 1) % 2 ^ 64 + 1) % 2 ^ 64 + 1) % 2 ^ 64 ≡ word (at + 4) = omega arith in
    (rw (held.0, held.1.0, held.1.1.0, held.1.1.1.0) (ap (λ n. Some n) whole), subst (λ a. HoldsCode m a more) behind held.1.1.1.1)

HoldsWords-bytes : (m : Memory) (at : ℕ) (instrs : List Instr) → HoldsCode m at (flat_map word_bytes (map word_of instrs) ++ []) → HoldsWords m at instrs
HoldsWords-bytes m at [] held = tt
HoldsWords-bytes m at (i ∷ more) held =
    let parts = fetched-bytes m at (word_of i) (flat_map word_bytes (map word_of more) ++ []) (word_of-bound i) held in
    (parts.0, HoldsWords-bytes m (word (at + 4)) more parts.1)

length-words : (instrs : List Instr) → length (flat_map word_bytes (map word_of instrs) ++ []) ≡ 4 * length instrs
length-words [] = refl
length-words (i ∷ more) = let rest = length-words more in omega arith

-- What the assembler accepts

abbrev answer : Bool → Bool → Bool → List ℕ → Result (List ℕ) AsmCause
answer undefined fits big bytes =
    cond undefined (Err causes.Label) (cond (not fits) (Err causes.Range) (cond big (Err causes.Big) (Ok bytes)))

accepted-parts : (u f b : Bool) (xs ys : List ℕ) → answer u f b xs ≡ Ok ys → (f ≡ true) × (b ≡ false) × (xs ≡ ys)
accepted-parts true f b xs ys e = cc
accepted-parts false false b xs ys e = cc
accepted-parts false true true xs ys e = cc
accepted-parts false true false xs ys e = (refl, refl, ap bytes_or_none e)

module _ (find : List ℕ → Option Definition) (at : ℕ) (s : Statement) (bytes : List ℕ) (ok : bytes_of find at s ≡ Ok bytes) where
  parts : (fits_values find at s ≡ true) × (is_big at s ≡ false) × (statement_bytes find at s ≡ bytes)
  unfolding bytes_of
  parts = accepted-parts (is_undefined find s) (fits_values find at s) (is_big at s) (statement_bytes find at s) bytes ok

  pub fits-accepted : fits_values find at s ≡ true
  fits-accepted = parts.0

  module _ (code : data_of at s ≡ []) where
    bytes-is : flat_map word_bytes (map word_of (instructions_of find at s)) ++ [] ≡ bytes
    bytes-is = ap (λ d. flat_map word_bytes (map word_of (instructions_of find at s)) ++ d) (sym code) ∙ parts.2

    pub words-accepted : (m : Memory) → HoldsCode m at bytes → HoldsWords m at (instructions_of find at s)
    words-accepted m held = HoldsWords-bytes m at (instructions_of find at s) (subst (HoldsCode m at) (sym bytes-is) held)

    size-is : 4 * length (instructions_of find at s) ≡ length bytes
    size-is = sym (length-words (instructions_of find at s)) ∙ ap length bytes-is

    -- What the instructions do, by their bytes.
    pub final-accepted : (cx : Context) (m : Memory) (end : ℕ → Context)
        → instructions (length (instructions_of find at s)) cx m ≡ final (end (4 * length (instructions_of find at s))) m
        → instructions (length bytes / 4) cx m ≡ final (end (length bytes)) m
    final-accepted cx m end e =
        let count : length bytes / 4 ≡ length (instructions_of find at s) = omega (arith, size-is) in
        ap (λ k. instructions k cx m) count ∙ (e ∙ ap (λ size. final (end size) m) size-is)
