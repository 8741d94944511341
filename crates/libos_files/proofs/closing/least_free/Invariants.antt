use Rattle.std.proofs.Common.{◌≡◌, ◌-◌}
use Rattle.guest_space.specs.First.{first_some}
use Rattle.libos_state.specs.Entered.{if_free_descriptor, least_free}
use Rattle.libos_files.proofs.closing.least_free.Given as goal

-- the first that is free is the first of those that are left
abbrev pub invariant-loop-fd : goal.invariant-loop-fd
invariant-loop-fd l = first_some (if_free_descriptor l.descriptors) l.fd (32 - l.fd) ≡ least_free l.descriptors
