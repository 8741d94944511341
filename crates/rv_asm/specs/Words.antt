-- What the program's functions that write bytes answer.
use Rattle.std.specs.Prelude.{◌≡◌, Bool, true, false, if◌then◌else◌, ℕ, List, [], ◌∷◌, ◌++◌, map, Option, Some, None, Result, Ok, Err}
use Rattle.rv_core.specs.declared.instr.Instr.{Instr}
use Rattle.rv_asm.specs.declared.AsmCause.{AsmCause}
use Rattle.rv_asm.specs.declared.AsmCause.TheVariants as causes
use Rattle.rv_asm.specs.declared.refusal.LineError.{LineError}
use Rattle.rv_asm.specs.declared.refusal.LineError.TheVariants.{Refused, Memory}
use Rattle.rv_asm.specs.declared.encoding.Words.{Words}
use Rattle.rv_asm.specs.declared.encoding.Words.TheVariants.{Empty, One, Two}
use Rattle.rv_asm.specs.Encoding.{word_of}

abbrev pub words_list : Words → List ℕ
words_list Empty = []
words_list (One w) = w ∷ []
words_list (Two w v) = w ∷ v ∷ []

-- The cause to refuse a statement that names an undefined label, or whose values don't fit.
abbrev pub value_cause : Bool → Bool → Option AsmCause
value_cause undefined fits =
    if undefined then Some causes.Label else (if fits then None else Some causes.Range)

-- The words of the instructions, or that cause.
abbrev pub HasWords : Result Words AsmCause → Bool → Bool → List Instr → Type 0
HasWords (Ok words) undefined fits instrs =
    (undefined ≡ false) × (fits ≡ true) × (words_list words ≡ map word_of instrs)
HasWords (Err cause) undefined fits instrs = value_cause undefined fits ≡ Some cause

-- Bytes stand behind those that were there, or there is a cause to refuse them.
abbrev pub HasAppended : Result (List ℕ) AsmCause → List ℕ → List ℕ
    → Result (Unit {0}) LineError → Type 0
HasAppended wanted old new (Ok done) = (bytes : List ℕ) × (wanted ≡ Ok bytes) × (new ≡ old ++ bytes)
HasAppended wanted old new (Err (Refused cause)) = wanted ≡ Err cause
HasAppended wanted old new (Err Memory) = Unit {0}

-- The same of an answer that tells the address behind the bytes.
abbrev pub HasPlaced : Result (List ℕ) AsmCause → ℕ → List ℕ → List ℕ → Result ℕ LineError → Type 0
HasPlaced wanted next old new (Ok n) =
    (n ≡ next) × ((bytes : List ℕ) × (wanted ≡ Ok bytes) × (new ≡ old ++ bytes))
HasPlaced wanted next old new (Err (Refused cause)) = wanted ≡ Err cause
HasPlaced wanted next old new (Err Memory) = Unit {0}
