-- The line that tells an outcome.
use Rattle.std.specs.Prelude.{ℕ, List, [], ◌∷◌, ◌++◌, codes, decimal}
use Rattle.bas_names.specs.Escape.{escaped}
use Rattle.elf_loader.specs.declared.ElfError.{ElfError}
use Rattle.elf_loader.specs.declared.ElfError.TheVariants as elf
use Rattle.rv_asm.specs.declared.AsmCause.{AsmCause}
use Rattle.rv_asm.specs.declared.AsmCause.TheVariants as asm
use Rattle.bas_outcomes.specs.declared.outcome.Report.{Report}
use Rattle.bas_outcomes.specs.declared.outcome.Report.TheVariants.{Put, Got, Assembled}
use Rattle.bas_outcomes.specs.declared.outcome.Outcome.{Outcome}
use Rattle.bas_outcomes.specs.declared.outcome.Outcome.TheVariants as outcome

-- A report says what was done with how many bytes.
abbrev pub report_of : Report → List ℕ
report_of (Put count) = codes "put " ++ decimal count ++ codes " bytes"
report_of (Got count) = codes "got " ++ decimal count ++ codes " bytes"
report_of (Assembled count) = codes "assembled " ++ decimal count ++ codes " bytes"

-- A cause is told by its name.
abbrev pub cause_of : AsmCause → List ℕ
cause_of asm.Text = codes "Text"
cause_of asm.Mnemonic = codes "Mnemonic"
cause_of asm.Directive = codes "Directive"
cause_of asm.Operand = codes "Operand"
cause_of asm.Number = codes "Number"
cause_of asm.Twice = codes "Twice"
cause_of asm.Label = codes "Label"
cause_of asm.Range = codes "Range"
cause_of asm.Big = codes "Big"

-- A refusal of a program's file by its name, and by the number of the program header if it has one.
abbrev pub refusal_of : ElfError → List ℕ
refusal_of elf.Short = codes "Short"
refusal_of elf.Magic = codes "Magic"
refusal_of elf.Class = codes "Class"
refusal_of elf.Order = codes "Order"
refusal_of elf.Kind = codes "Kind"
refusal_of elf.Machine = codes "Machine"
refusal_of elf.Table = codes "Table"
refusal_of elf.Interp = codes "Interp"
refusal_of (elf.Segment header) = codes "Segment " ++ decimal header
refusal_of (elf.Overlap header) = codes "Overlap " ++ decimal header
refusal_of elf.Big = codes "Big"
refusal_of elf.Entry = codes "Entry"

-- What an outcome says of itself; the names in it are escaped.
abbrev pub text_of : Outcome → List ℕ
text_of (outcome.Exited code) = []
text_of (outcome.Done report) = report_of report
text_of (outcome.Bound turns) = codes "bound after " ++ decimal turns ++ codes " turns"
text_of (outcome.Stuck turns) = codes "stuck after " ++ decimal turns ++ codes " turns"
text_of outcome.BadWords = codes "bad words"
text_of (outcome.NoFile name) = codes "no file " ++ escaped name
text_of (outcome.Large name) = codes "too large " ++ escaped name
text_of (outcome.NoProgram name) = codes "no program " ++ escaped name
text_of (outcome.BadProgram cause) = codes "bad program: " ++ refusal_of cause
text_of (outcome.BadText line cause) =
    codes "line " ++ decimal line ++ codes ": " ++ cause_of cause
text_of outcome.AlreadyUsed = codes "host already used"
text_of outcome.HostFault = codes "host fault"
text_of outcome.ShelfFault = codes "shelf fault"
text_of outcome.NotesFault = codes "notes fault"
text_of outcome.OutOfMemory = codes "out of memory"

-- The line of an outcome; an exit has none.
abbrev pub line_of : Outcome → List ℕ
line_of (outcome.Exited code) = []
line_of outcome = codes "bascule: " ++ text_of outcome ++ 10 ∷ []
