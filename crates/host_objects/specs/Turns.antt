-- What a thread does in its turn.
use Rattle.std.specs.Prelude.{◌≡◌, ℕ}
use Rattle.std.specs.declared.option.Option.TheVariants.{Some}
use Rattle.rv_core.specs.declared.context.Context.{Context}
use Rattle.rv_core.specs.declared.context.Ended.{Ended}
use Rattle.rv_core.specs.Machine.{trap_of}
use Rattle.guest_space.specs.Space.{Space}
use Rattle.guest_space.specs.Running.{Ran, run_space}
use Rattle.abi_calls.specs.declared.object.Object.TheVariants.{Thread}
use Rattle.abi_calls.specs.Objects.{Objects, object_at, running}
use Rattle.abi_calls.specs.Turn.{with_run_of}

-- A thread whose process runs.
pub record HasHome (o : Objects) (thread : ℕ) : Type 0 where
  pub process : ℕ
  pub context : Context
  pub memory : Space
  pub is : object_at o thread ≡ Some (Thread process context)
  pub runs : running (object_at o process) ≡ Some memory

-- A thread of a process did its instructions in the pages of that process, from these registers to those that it keeps.
pub record RunsSlice (o : Objects) (thread process : ℕ) (context : Context) (ended : Ended)
    (o' : Objects) (context' : Context) : Type 0 where
  pub memory : Space
  pub runs : running (object_at o process) ≡ Some memory
  pub run : Ran
  pub led : run_space o.settings.slice context memory ≡ run
  pub registers : run.context ≡ context'
  pub trap : run.trap ≡ trap_of ended
  pub now : o' ≡ with_run_of o thread process run
