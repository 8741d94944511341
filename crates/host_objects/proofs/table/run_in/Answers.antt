use Rattle.std.proofs.Common.{ap, ◌∙◌}
use Rattle.abi_calls.specs.declared.object.Object.TheVariants.{Process}
use Rattle.host_objects.proofs.table.run_in.Goals as goal

pub returns : goal.returns
returns c =
    let process = c.in-Process-default-None in
    record {
      memory = process.memory;
      space = c.run_with.new.self;
      was = process.is ∙ ap (Process process.memory) process.code-is;
      led = c.run_with.ensures;
      now = ap (Process c.run_with.new.self) process.code-is;
    }
