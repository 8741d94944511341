use Rattle.std.proofs.Common.{◌≡◌, ◌≤◌, length}
use Rattle.guest_memory.specs.Hints.{AreKept, AreNoted}
use Rattle.guest_memory.proofs.place.note_places.Given as goal

-- the pages before this place are noted
abbrev pub invariant-loop-place : goal.invariant-loop-place
invariant-loop-place l = record {
  full : length l.table ≡ 1024;
  none : length l.pages ≤ l.from → l.place ≡ l.from;
  noted : AreNoted l.pages l.table l.from l.place;
  kept : AreKept l.pages l.fn.table l.table l.from l.place;
}
