use Rattle.std.proofs.Common.{◌≡◌, ◌+◌, ◌-◌, ◌≤◌, ◌++◌, vec_len, vec_capacity}
use Rattle.guest_memory.proofs.Gaps.{blank_pages}
use Rattle.guest_memory.proofs.run.insert_run.Given as goal

-- k pages stand at the end
abbrev pub invariant-loop-k : goal.invariant-loop-k
invariant-loop-k l = record {
  added : l.pages.items ≡ l.fn.pages.items ++ blank_pages l.page l.rights l.k;
  room : vec_len l.pages + (l.count - l.k) ≤ vec_capacity l.pages;
}
