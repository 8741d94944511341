-- What each outcome of `put` and of `get` says, in both directions: every line excludes the others.
-- What is said of files holds where they are told.
use Rattle.std.specs.Prelude.{◌≡◌, ℕ, List}
use Rattle.std.specs.Option.{ForSome}
use Rattle.std.specs.declared.option.Option.{Option}
use Rattle.std.specs.declared.option.Option.TheVariants.{Some}
use Rattle.bas_edge.specs.Files.{Files}
use Rattle.abi_calls.specs.declared.limits.TheConstants.{LONGEST_FILE}
use Rattle.abi_calls.specs.World.{Told}
use Rattle.file_commands.specs.Copies.{Puts, LeavesPut, Gets, HasNone, IsLonger}
use Rattle.bas_outcomes.specs.declared.outcome.Report.TheVariants as report
use Rattle.bas_outcomes.specs.declared.outcome.Outcome.{Outcome}
use Rattle.bas_outcomes.specs.declared.outcome.Outcome.TheVariants.{Done, NoFile, Large, AlreadyUsed, HostFault, ShelfFault, OutOfMemory}
use Rattle.bascule_top.specs.Commands.{Command, Put, Get}

-- `put` of the user's file `file` to the host's file `name`. Where it was given up, the host's file
-- is as before or has a first part of the user's; all else of the host is as before.
abbrev pub PutSays : Outcome → List ℕ → List ℕ → Option Files → Told → Told → Type 0
PutSays (Done (report.Put count)) file name files told told' = Puts file name count files told told'
PutSays (NoFile other) file name files told told' =
    (other ≡ file) × HasNone files file × (told' ≡ told)
PutSays (Large other) file name files told told' =
    (other ≡ file) × ForSome files (IsLonger LONGEST_FILE file) × (told' ≡ told)
PutSays AlreadyUsed file name files told told' = told' ≡ told
PutSays HostFault file name files told told' = LeavesPut file name files told told'
PutSays ShelfFault file name files told told' = LeavesPut file name files told told'
PutSays OutOfMemory file name files told told' = LeavesPut file name files told told'
PutSays _ file name files told told' = ⊥

-- `get` of the host's file `name` to the user's file `file`.
abbrev pub GetSays : Outcome → List ℕ → List ℕ → Told → Option Files → Option Files → Type 0
GetSays (Done (report.Got count)) name file told files files' =
    Gets name file count told files files'
GetSays (NoFile other) name file told files files' =
    (other ≡ name) × HasNone told.files name × (files' ≡ files)
GetSays AlreadyUsed name file told files files' = files' ≡ files
GetSays HostFault name file told files files' = files' ≡ files
GetSays ShelfFault name file told files files' = files' ≡ files
GetSays OutOfMemory name file told files files' = files' ≡ files
GetSays _ name file told files files' = ⊥

-- `put` leaves the user's files, and `get` all that the host tells.
abbrev pub Copying : Outcome → Option Command → Told → Told → Option Files → Option Files → Type 0
Copying outcome (Some (Put file name)) told told' files files' =
    PutSays outcome file name files told told' × (files' ≡ files)
Copying outcome (Some (Get name file)) told told' files files' =
    GetSays outcome name file told files files' × (told' ≡ told)
Copying outcome _ told told' files files' = Unit {0}
