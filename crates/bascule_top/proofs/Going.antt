-- A run, one turn after another.
use Rattle.std.proofs.Common.{◌≡◌, ◌≢◌, ◌⊎◌, inl, inr, ℕ, suc, ◌+◌, ◌-◌, ◌%◌, ◌^◌, ◌<◌, ◌≤◌, List, true, append-nil, refl, sym, ◌∙◌, ap, subst, arith}
use Rattle.std.specs.declared.option.Option.{Option}
use Rattle.std.specs.declared.option.Option.TheVariants.{None, Some}
use Rattle.abi_calls.specs.declared.host.Crossing.{Crossing}
use Rattle.abi_calls.specs.declared.threads.Turned.TheVariants as world
use Rattle.turn_sched.specs.Clock.{next_position}
use Rattle.abi_calls.specs.World.{Told}
use Rattle.abi_calls.specs.Turn.{world_turn}
use Rattle.mono_model.specs.Machine as mono
use Rattle.mono_model.specs.Machine.{Mono}
use Rattle.mono_model.specs.Readable.{Readable}
use Rattle.mono_model.specs.Written.{Written, nothing, and_then}
use Rattle.mono_model.specs.Calls.{Served}
use Rattle.mono_model.specs.Turns.{End, Exited, Bound, Stuck, Ending, ends_as, behind, is_stuck, turn_of, run_of}
use Rattle.mono_model.proofs.RunLaws.{run_of-exited, run_of-bound, run_of-stuck, run_of-turn, and_then-assoc}
use Rattle.libos_state.specs.Records.{exit_code}
use Rattle.libos_state.specs.Laws.{IsRest}
use Rattle.libos_state.specs.Meaning.{leads_to}
use Rattle.libos_state.proofs.Bases.{exit_code-base}
use Rattle.turn_engine.specs.Inside.{WhereReadable, IsWritten}
use Rattle.turn_engine.specs.Moment.{Moment, seen_at, machine_at}
use Rattle.abi_calls.specs.declared.threads.Turned.{Turned}
use Rattle.turn_engine.specs.declared.machine.TurnEnd.{TurnEnd}
use Rattle.turn_engine.specs.declared.machine.TurnEnd.TheVariants as turned
use Rattle.turn_engine.specs.Ends as turn_ends
use Rattle.turn_engine.specs.Ends.{turns_of}
use Rattle.turn_engine.specs.Serves.{IsUp, IsTurnOf, MakesTurn, StaysStuck, TurnsTo}
use Rattle.turn_engine.specs.Halts.{IsGivenUp, HaltsTurn}
use Rattle.turn_engine.specs.History.{History, Broken}
use Rattle.turn_engine.proofs.Histories.{history_none, history_then, broken_then}
use Rattle.turn_engine.proofs.Telling.{IsWritten-nothing, IsWritten-then, where-same, where-then, where-weaker}
use Rattle.bascule_top.specs.declared.run.RunEnd.{RunEnd}
use Rattle.bascule_top.specs.declared.run.RunEnd.TheVariants as run
use Rattle.bascule_top.specs.Runs.{turns_made, end_of, MadeTurns, GoneOn, EndsIn, StopsAt, EndsRun, IsGivenUpAfter, BreaksRun}

-- the machine's exit code is that of the records
machine_code : (a : Moment) (x : Readable) → mono.exit_code (machine_at a x) 1 ≡ exit_code a.os
machine_code a x = exit_code-base a.os (seen_at a x)

-- no turn is made yet
MadeTurns-none : (a : Moment) (x : Readable) → MadeTurns 0 a a x x
MadeTurns-none a x = record { written = IsWritten-nothing a.told; same = refl; run = λ left. ap (λ k. run_of k (machine_at a x)) (omega arith) }

pub GoneOn-none : (a : Moment) → IsUp a.os a.objects → a.objects.positions.turns ≡ 0 → GoneOn 0 a a
GoneOn-none a up unturned = record {
  up = up;
  turns = omega arith;
  means = where-same a.told (MadeTurns 0 a a) (MadeTurns-none a);
  history = history_none a;
}

-- one more turn
MadeTurns-turn : (k : ℕ) (a b c : Moment) (x y z : Readable) → exit_code b.os ≡ None → MadeTurns k a b x y → IsTurnOf b c y z → MadeTurns (suc k) a c x z
MadeTurns-turn k a b c x y z alive first turn =
    let m = machine_at a x in
    let next : turn_of (machine_at b y) ≡ turn_of (turns_made k m).0 = ap turn_of first.same in
    record {
      written = IsWritten-then a.told b.told c.told (turns_made k m).1 (turn_of (turns_made k m).0).1 first.written
          (subst (λ (s : Served). IsWritten b.told c.told s.1) next turn.told);
      same = turn.same ∙ ap (λ (s : Served). s.0) next;
      run = λ left.
          ap (λ j. run_of j m) (omega arith) ∙ first.run (suc left)
          ∙ ap (behind (turns_made k m).1) (run_of-turn left (machine_at b y) (machine_code b y ∙ alive) turn.goes)
          ∙ (λ i. behind (turns_made k m).1 (behind (next i).1 (run_of left (sym turn.same i))))
          ∙ (λ i. record (run_of left (machine_at c z)) { written = sym (and_then-assoc (turns_made k m).1 (turn_of (turns_made k m).0).1 (run_of left (machine_at c z)).written) i });
    }

risen_sum : (n k : ℕ) → next_position ((n + k) % 2 ^ 64) ≡ (n + suc k) % 2 ^ 64
risen_sum n k = omega arith

pub GoneOn-turn : (k : ℕ) (a b c : Moment) → GoneOn k a b → exit_code b.os ≡ None → MakesTurn b c → History 1 b c → GoneOn (suc k) a c
GoneOn-turn k a b c before alive turn history = record {
  up = turn.up;
  turns = turn.turns ∙ ap next_position before.turns ∙ risen_sum a.objects.positions.turns k;
  means = where-then a.told b.told c.told (MadeTurns k a b) (IsTurnOf b c) (MadeTurns (suc k) a c) (λ x y z. MadeTurns-turn k a b c x y z alive) before.means turn.means;
  history = subst (λ n. History n a c) (omega arith) (history_then k 1 a b c before.history history);
}

-- whatever the turn was, but for one that isn't made
pub GoneOn-goes : (k : ℕ) (end : TurnEnd) (a b c : Moment) → end ≢ turned.Stuck → GoneOn k a b → exit_code b.os ≡ None → TurnsTo end b c → History (turns_of end) b c → GoneOn (k + 1) a c
GoneOn-goes k turned.Ran a b c goes gone alive turn history = subst (λ j. GoneOn j a c) (omega arith) (GoneOn-turn k a b c gone alive turn history)
GoneOn-goes k turned.Idle a b c goes gone alive turn history = subst (λ j. GoneOn j a c) (omega arith) (GoneOn-turn k a b c gone alive turn history)
GoneOn-goes k turned.Served a b c goes gone alive turn history = subst (λ j. GoneOn j a c) (omega arith) (GoneOn-turn k a b c gone alive turn history)
GoneOn-goes k turned.Stuck a b c goes gone alive turn history = absurd (goes refl)

-- ---- how it ends

and_then-nothing : (w : Written) → and_then w nothing ≡ w
and_then-nothing w = λ i. record { output = append-nil w.output i; errors = append-nil w.errors i }

ended : (k left n : ℕ) (end : End) (a b : Moment) (x y : Readable) → k + left ≡ n → MadeTurns k a b x y → run_of left (machine_at b y) ≡ ends_as end (machine_at b y) → EndsIn n end a b x y
ended k left n end a b x y all made is =
    let whole : run_of n (machine_at a x) ≡ behind (turns_made k (machine_at a x)).1 (ends_as end (machine_at b y)) =
    ap (λ j. run_of j (machine_at a x)) (sym all) ∙ made.run left ∙ ap (behind (turns_made k (machine_at a x)).1) is in
    record {
      ends = ap (λ (e : Ending). e.end) whole;
      last = ap (λ (e : Ending). e.last) whole;
      written = subst (λ w. IsWritten a.told b.told w) (sym (ap (λ (e : Ending). e.written) whole ∙ and_then-nothing (turns_made k (machine_at a x)).1)) made.written;
    }

ends_with : (k n : ℕ) (end : RunEnd) (a b : Moment) → k ≤ n → GoneOn k a b → StopsAt end n k b
    → ((x y : Readable) → MadeTurns k a b x y → EndsIn n (end_of end) a b x y) → EndsRun n end a b
ends_with k n end a b within gone stops ends = record {
  up = gone.up;
  made = k;
  within = within;
  stops = stops;
  turns = gone.turns;
  means = where-weaker a.told b.told (MadeTurns k a b) (EndsIn n (end_of end) a b) ends gone.means;
  history = gone.history;
}

-- process 1 has exited
pub EndsRun-exited : (k n code : ℕ) (a b : Moment) → k ≤ n → GoneOn k a b → exit_code b.os ≡ Some code → EndsRun n (run.Exited code) a b
EndsRun-exited k n code a b within gone exit =
    ends_with k n (run.Exited code) a b within gone exit
    (λ x y made. ended k (n - k) n (Exited code) a b x y (omega arith) made (run_of-exited (n - k) (machine_at b y) code (machine_code b y ∙ exit)))

-- all turns were made
pub EndsRun-bound : (n : ℕ) (a b : Moment) → GoneOn n a b → exit_code b.os ≡ None → EndsRun n run.Bound a b
EndsRun-bound n a b gone alive =
    ends_with n n run.Bound a b (omega arith) gone (alive, refl)
    (λ x y made. ended n 0 n Bound a b x y (omega arith) made (run_of-bound (machine_at b y) (machine_code b y ∙ alive)))

-- there is no next turn
stuck_ended : (k n : ℕ) (a b : Moment) (x y : Readable) → k < n → exit_code b.os ≡ None → MadeTurns k a b x y → is_stuck (machine_at b y) ≡ true → EndsIn n Stuck a b x y
stuck_ended k n a b x y below alive made stuck =
    ended k (suc (n - suc k)) n Stuck a b x y (omega arith) made (run_of-stuck (n - suc k) (machine_at b y) (machine_code b y ∙ alive) stuck)

pub EndsRun-stuck : (k n : ℕ) (a b c : Moment) → k < n → GoneOn k a b → exit_code b.os ≡ None → StaysStuck b c → (world_turn b.objects).0 ≡ world.Stuck → EndsRun n (run.Stuck k) a c
EndsRun-stuck k n a b c below gone alive stays stuck =
    subst (λ (m : Moment). EndsRun n (run.Stuck k) a m) (sym stays.same) (record {
      up = gone.up;
      made = k;
      within = omega arith;
      stops = (alive, refl, stuck);
      turns = gone.turns;
      means = where-then a.told b.told b.told (MadeTurns k a b) (λ y z. (z ≡ y) × (is_stuck (machine_at b y) ≡ true)) (EndsIn n Stuck a b)
          (λ x y z made is. subst (λ (u : Readable). EndsIn n Stuck a b x u) (sym is.0) (stuck_ended k n a b x y below alive made is.1))
          gone.means stays_here;
      history = gone.history;
    })
  where
    stays_here : WhereReadable b.told b.told (λ y z. (z ≡ y) × (is_stuck (machine_at b y) ≡ true))
    stays_here = record { holds = λ y e. (y, e, (refl, (stays.means.holds y e).2)) }

stuck_world : (t : Turned) → turned.Stuck ≡ turn_ends.end_of t → t ≡ world.Stuck
stuck_world world.Ran e = absurd (cc)
stuck_world world.Idle e = absurd (cc)
stuck_world world.Stuck e = refl
stuck_world (world.Exception upcall) e = absurd (cc)

pub EndsRun-stays : (k n : ℕ) (end : TurnEnd) (a b c : Moment) → end ≡ turned.Stuck → k < n → GoneOn k a b → exit_code b.os ≡ None → TurnsTo end b c → end ≡ turn_ends.end_of (world_turn b.objects).0 → EndsRun n (run.Stuck k) a c
EndsRun-stays k n turned.Stuck a b c is below gone alive turn ends = EndsRun-stuck k n a b c below gone alive turn (stuck_world (world_turn b.objects).0 ends)
EndsRun-stays k n turned.Ran a b c is below gone alive turn ends = absurd (cc)
EndsRun-stays k n turned.Idle a b c is below gone alive turn ends = absurd (cc)
EndsRun-stays k n turned.Served a b c is below gone alive turn ends = absurd (cc)

-- ---- a turn that is given up

given_up : (k : ℕ) (a b : Moment) (t : Told) (x y z : Readable) → MadeTurns k a b x y → IsGivenUp b.told t (leads_to (turn_of (machine_at b y))) y z → IsGivenUpAfter k (machine_at a x) a.told t z
given_up k a b t x y z made given =
    let m = machine_at a x in
    let next : turn_of (machine_at b y) ≡ turn_of (turns_made k m).0 = ap turn_of made.same in
    let whole : (turn_of (machine_at b y)).1 ≡ and_then given.partly.part given.partly.rest = λ i. record { output = given.partly.output i; errors = given.partly.errors i } in
    record {
      partly = given.partly.part;
      rest = given.partly.rest;
      next = sym (ap (λ (s : Served). s.1) next) ∙ whole;
      written = IsWritten-then a.told b.told t (turns_made k m).1 given.partly.part made.written given.partly.written;
      input = subst (λ (n : Mono). IsRest z.input n.input) made.same given.input;
      files = files_then (ap (λ (n : Mono). n.files) made.same) (ap (λ (s : Served). s.0.files) next) given.files;
    }
  where
    files_then : {X : Type 0} {f y p n q : X} → y ≡ p → n ≡ q → (f ≡ y) ⊎ (f ≡ n) → (f ≡ p) ⊎ (f ≡ q)
    files_then e d (inl h) = inl (h ∙ e)
    files_then e d (inr h) = inr (h ∙ d)

pub BreaksRun-turn : (k n : ℕ) (a b : Moment) (t : Told) (journal : Option (List Crossing)) (answered : ℕ) → k < n → GoneOn k a b → HaltsTurn b t → Broken 1 b t journal answered → BreaksRun n a t journal answered
BreaksRun-turn k n a b t journal answered below gone halts broken = record {
  before = k;
  within = omega arith;
  broken = subst (λ j. Broken j a t journal answered) (omega arith) (broken_then k 1 a b t journal answered gone.history broken);
  means = where-then a.told b.told t (MadeTurns k a b) (λ y z. IsGivenUp b.told t (leads_to (turn_of (machine_at b y))) y z) (λ x z. IsGivenUpAfter k (machine_at a x) a.told t z)
      (λ x y z. given_up k a b t x y z) gone.means halts.halts;
}
