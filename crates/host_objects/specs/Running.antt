-- What a thread does in the pages of a process, where they stand among the objects.
use Rattle.std.specs.Prelude.{◌≡◌, ℕ}
use Rattle.std.specs.FinMap.{get, insert}
use Rattle.std.specs.declared.option.Option.TheVariants.{None, Some}
use Rattle.rv_core.specs.declared.context.Context.{Context}
use Rattle.rv_core.specs.declared.context.Ended.{Ended}
use Rattle.rv_core.specs.Machine.{trap_of}
use Rattle.guest_space.specs.Space.{Space}
use Rattle.guest_space.specs.Running.{run_space}
use Rattle.abi_calls.specs.declared.object.Object.TheVariants.{Process, Thread}
use Rattle.abi_calls.specs.Objects.{Live, Object, running}

-- A thread with these registers does up to `most` instructions in the pages of a process that runs.
pub record RunsObject (most : ℕ) (object : Object) (context : Context) (ended : Ended)
    (object' : Object) (context' : Context) : Type 0 where
  pub memory : Space
  pub space : Space
  pub was : object ≡ Process memory None
  pub led : run_space most context memory
      ≡ record { context = context'; space = space; trap = trap_of ended }
  pub now : object' ≡ Process space None

-- The same where the process stands among others, none of which changes.
pub record RunsIn (live : Live) (process most : ℕ) (context : Context) (ended : Ended) (live' : Live)
    (context' : Context) : Type 0 where
  pub memory : Space
  pub space : Space
  pub runs : running (get live process) ≡ Some memory
  pub led : run_space most context memory
      ≡ record { context = context'; space = space; trap = trap_of ended }
  pub now : live' ≡ insert live process (Process space None)

-- A thread with other registers.
abbrev pub with_registers : Object → Context → Object
with_registers (Thread process before) context = Thread process context
with_registers object context = object

-- A thread gets other registers, and nothing else changes.
pub record SetsRegisters (live : Live) (thread : ℕ) (context : Context) (live' : Live) : Type 0 where
  pub process : ℕ
  pub before : Context
  pub was : get live thread ≡ Some (Thread process before)
  pub now : live' ≡ insert live thread (Thread process context)
