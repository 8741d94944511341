-- The exit status of each outcome.
use Rattle.std.specs.Prelude.{ℕ}
use Rattle.bas_outcomes.specs.declared.outcome.Outcome.{Outcome}
use Rattle.bas_outcomes.specs.declared.outcome.Outcome.TheVariants as outcome

abbrev pub status_of : Outcome → ℕ
status_of (outcome.Exited code) = code
status_of (outcome.Done report) = 0
status_of (outcome.Bound turns) = 230
status_of (outcome.Stuck turns) = 231
status_of outcome.BadWords = 233
status_of (outcome.NoFile name) = 234
status_of (outcome.Large name) = 235
status_of (outcome.NoProgram name) = 239
status_of (outcome.BadProgram cause) = 240
status_of (outcome.BadText line cause) = 244
status_of outcome.AlreadyUsed = 245
status_of outcome.HostFault = 246
status_of outcome.ShelfFault = 247
status_of outcome.NotesFault = 248
status_of outcome.OutOfMemory = 249
