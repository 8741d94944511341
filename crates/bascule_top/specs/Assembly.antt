-- What each outcome of `asm` says, in both directions: every line excludes the others. What is said
-- of files holds where the shelf tells its files.
use Rattle.std.specs.Prelude.{◌≡◌, ℕ, ◌≤◌, List, length, MatchOption, Result, Ok, Err}
use Rattle.std.specs.Option.{ForSome}
use Rattle.std.specs.declared.option.Option.{Option}
use Rattle.std.specs.declared.option.Option.TheVariants.{None, Some}
use Rattle.bas_edge.specs.Files.{Files, file_of, with_file}
use Rattle.rv_asm.specs.declared.AsmError.{AsmError}
use Rattle.rv_asm.specs.declared.AsmError.TheVariants.{Line}
use Rattle.rv_asm.specs.Program.{assembled}
use Rattle.file_commands.specs.Copies.{IsLonger}
use Rattle.bas_outcomes.specs.declared.outcome.Report.TheVariants.{Assembled}
use Rattle.bas_outcomes.specs.declared.outcome.Outcome.{Outcome}
use Rattle.bas_outcomes.specs.declared.outcome.Outcome.TheVariants.{Done, NoFile, Large, BadText, ShelfFault, OutOfMemory}
use Rattle.bascule_top.specs.Commands.{Command, Asm, Get}

-- The most bytes of an assembly text.
abbrev pub LONGEST_TEXT : ℕ
LONGEST_TEXT = 1048576

-- The file of the name is within the limit, and this is what its text stands for: a file, or the
-- first line that is refused.
pub record StandsFor (name : List ℕ) (files : Files) (answer : Result (List ℕ) AsmError)
    : Type 0 where
  pub source : List ℕ
  pub there : file_of files name ≡ Some source
  pub short : length source ≤ LONGEST_TEXT
  pub is : assembled source ≡ answer

-- The file `file` is the assembled file of so many bytes, and all other files are as before.
pub record Replaces (text file : List ℕ) (count : ℕ) (files : Files) (told' : Option Files)
    : Type 0 where
  pub bytes : List ℕ
  pub stands : StandsFor text files (Ok bytes)
  pub counted : count ≡ length bytes
  pub after : told' ≡ Some (with_file file bytes files)

abbrev pub SaysOfAssembly : Outcome → List ℕ → List ℕ → Option Files → Option Files → Type 0
SaysOfAssembly (Done (Assembled count)) text file told told' =
    MatchOption told (told' ≡ None) (λ files. Replaces text file count files told')
SaysOfAssembly (NoFile name) text file told told' =
    (name ≡ text) × (told' ≡ told) × ForSome told (λ files. file_of files text ≡ None)
SaysOfAssembly (Large name) text file told told' =
    (name ≡ text) × (told' ≡ told) × ForSome told (IsLonger LONGEST_TEXT text)
SaysOfAssembly (BadText line cause) text file told told' =
    (told' ≡ told) × ForSome told (λ files. StandsFor text files (Err (Line line cause)))
SaysOfAssembly ShelfFault text file told told' = told' ≡ told
SaysOfAssembly OutOfMemory text file told told' = told' ≡ told
SaysOfAssembly _ text file told told' = ⊥

-- `asm` says what its outcome says, and no other words but those of `get` change a file of the
-- user's.
abbrev pub Assembly : Outcome → Option Command → Option Files → Option Files → Type 0
Assembly outcome (Some (Asm text file)) told told' = SaysOfAssembly outcome text file told told'
Assembly outcome (Some (Get name file)) told told' = Unit {0}
Assembly outcome _ told told' = told' ≡ told
