-- Several instructions of a thread, in the pages of its process.
use Rattle.std.specs.Prelude.{ℕ}
use Rattle.std.specs.declared.option.Option.{Option}
use Rattle.rv_core.specs.declared.context.Context.{Context}
use Rattle.rv_core.specs.Machine.{instructions, Reached}
use Rattle.guest_space.specs.Space.{Space, memory_of, with_memory}

-- What a run leads to: registers, pages, and the trap that ended it.
pub record Ran : Type 0 where
  pub context : Context
  pub space : Space
  pub trap : Option (ℕ × ℕ)

abbrev pub ran_from : Space → Reached → Ran
ran_from s r = record { context = r.context; space = with_memory s r.memory; trap = r.trap }

-- n instructions, or as many as are done before one traps.
abbrev pub run_space : ℕ → Context → Space → Ran
run_space n cx s = ran_from s (instructions n cx (memory_of s))
