use Rattle.std.proofs.Common.{◌≡◌, ℕ, ◌-◌, ◌<◌, ◌≤◌, false}
use Rattle.elf_loader.specs.Refusal.{meets_earlier}
use Rattle.elf_loader.proofs.file.ElfFile.apart_count.Given as goal

abbrev pub invariant-loop-apart : goal.invariant-loop-apart
invariant-loop-apart l = record {
  within : l.beyond ≤ l.n;
  below : l.apart ≤ l.n;
  apart : (i : ℕ) → i < l.apart → meets_earlier l.self.bytes.now i ≡ false;
}

abbrev pub decreases-loop-apart : goal.decreases-loop-apart
decreases-loop-apart l = l.beyond - l.apart
