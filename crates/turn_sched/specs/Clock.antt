-- The clock of a run and the tape that picks its threads, by the settings and the positions.
use Rattle.std.specs.Prelude.{ℕ, ◌+◌, ◌*◌, ◌%◌, ◌^◌, Bool, false, nat_le, slice_index}
use Rattle.std.specs.declared.option.Option.{Option}
use Rattle.std.specs.declared.option.Option.TheVariants.{None, Some}
use Rattle.turn_sched.specs.declared.settings.Positions.{Positions}
use Rattle.turn_sched.specs.declared.settings.Settings.{Settings}

-- The position behind one, modulo 2^64.
abbrev pub next_position : ℕ → ℕ
next_position n = (n + 1) % 2 ^ 64

-- The positions after a turn in which no thread was picked, and after one in which one was.
abbrev pub after_idle : Positions → Positions
after_idle positions = record positions { turns = next_position positions.turns }

abbrev pub after_pick : Positions → Positions
after_pick positions = record positions {
  turns = next_position positions.turns;
  pick = next_position positions.pick;
}

-- The time, in nanoseconds.
abbrev pub time_at : Settings → Positions → ℕ
time_at settings positions = (settings.start + settings.step * positions.turns) % 2 ^ 64

-- A deadline has come.
abbrev pub is_past : ℕ → Option ℕ → Bool
is_past now None = false
is_past now (Some deadline) = nat_le deadline now

-- The next word of the tape that picks a ready thread, 0 past its end.
abbrev pub pick_word_at : Settings → Positions → ℕ
pick_word_at settings positions = slice_index settings.picks positions.pick
