-- What a command has done when it ended in an outcome, before its note.
use Rattle.std.specs.Prelude.{◌≡◌, ◌≢◌}
use Rattle.std.specs.declared.option.Option.{Option}
use Rattle.abi_calls.specs.Fresh.{IsFreshWorld}
use Rattle.bas_edge.specs.Files.{Files}
use Rattle.bas_outcomes.specs.declared.outcome.Outcome.{Outcome}
use Rattle.bas_outcomes.specs.declared.outcome.Outcome.TheVariants.{AlreadyUsed, NotesFault}
use Rattle.bascule_top.specs.Assembly.{Assembly}
use Rattle.bascule_top.specs.Copying.{Copying}
use Rattle.bascule_top.specs.Commands.{Command, UsesHost}
use Rattle.bascule_top.specs.Histories.{Historic}
use Rattle.bascule_top.specs.Outcomes.{Headline}
use Rattle.bascule_top.specs.States.{HostState}

-- A host in this state was used before.
abbrev pub WasUsed : HostState → Type 0
WasUsed s = IsFreshWorld s.objects s.answered → ⊥

-- The command is refused for its host exactly where it uses one, and this one was used before.
pub record IsRefused (outcome : Outcome) (command : Option Command) (s : HostState) : Type 0 where
  pub uses : outcome ≡ AlreadyUsed → UsesHost command × WasUsed s
  pub refused : UsesHost command → WasUsed s → outcome ≡ AlreadyUsed

-- The outcome, what stands in the host and in the user's files, and how it came about.
pub record CarriesOut (outcome : Outcome) (command : Option Command) (s s' : HostState)
    (files files' : Option Files) : Type 0 where
  pub headline : Headline outcome command s s'
  pub history : Historic outcome command s s'
  pub assembly : Assembly outcome command files files'
  pub copying : Copying outcome command s.told s'.told files files'
  pub used : IsRefused outcome command s
  pub unnoted : outcome ≢ NotesFault
