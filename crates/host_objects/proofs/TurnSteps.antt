-- A turn, by the thread that is picked and by how it ends.
use Rattle.std.specs.Prelude.{◌≡◌, ℕ, not, List, [], ◌++◌, map, filter, unwrap_or, slice_index, slice_get, is_some}
use Rattle.std.specs.List.{list_any}
use Rattle.std.specs.FinMap.{get, insert}
use Rattle.std.specs.declared.option.Option.TheVariants.{None, Some}
use Rattle.std.proofs.Common.{refl, sym, ap, ◌∙◌, append-nil}
use Rattle.std.proofs.lemmas.Bool.{cond-false}
use Rattle.std.proofs.lemmas.Option.{unwrap_or-slice_get}
use Rattle.rv_core.specs.declared.context.Context.{Context}
use Rattle.rv_core.specs.declared.context.Ended.{Ended}
use Rattle.rv_core.specs.Machine.{trap_of}
use Rattle.turn_sched.specs.Lists.{Waiting, Lists}
use Rattle.abi_calls.specs.declared.object.Object.TheVariants.{Thread}
use Rattle.abi_calls.specs.declared.threads.Turned.{Turned}
use Rattle.abi_calls.specs.declared.threads.Turned.TheVariants.{Stuck}
use Rattle.abi_calls.specs.Objects.{Live, Objects, object_at, running}
use Rattle.abi_calls.specs.Sound.{IsSound}
use Rattle.abi_calls.specs.Turn.{is_due, with_due_ready, pick_of, turn_of_pick, world_turn}
use Rattle.abi_calls.proofs.Facts.{ready_thread}
use Rattle.host_objects.specs.System.{wait_for_nothing, world_lists}
use Rattle.host_objects.specs.Running.{RunsIn, SetsRegisters}
use Rattle.host_objects.specs.Turns.{HasHome, RunsSlice}
use Rattle.host_objects.proofs.Running.{thread_stays}
use Rattle.host_objects.proofs.Lists.{none_passes, all_stay, any_waits}

-- ---- where each thread that waits waits for nothing
-- None is due.
not_due : (o : Objects) (l : Lists ℕ) → o.lists ≡ world_lists l → with_due_ready o ≡ o
not_due o l e =
    let waits : o.lists.waiting ≡ map wait_for_nothing l.waiting = ap {A = Lists Waiting} (λ ls. ls.waiting) e in
    let none : filter (is_due o) o.lists.waiting ≡ [] = ap (filter (is_due o)) waits ∙ none_passes (is_due o) (λ t. refl) l.waiting in
    let ready : o.lists.ready ++ map (λ w. w.thread) (filter (is_due o) o.lists.waiting) ≡ o.lists.ready =
    ap (λ ws. o.lists.ready ++ map (λ w. w.thread) ws) none ∙ append-nil o.lists.ready in
    let waiting : filter (λ w. not (is_due o w)) o.lists.waiting ≡ o.lists.waiting =
    ap (filter (λ w. not (is_due o w))) waits ∙ all_stay (is_due o) (λ t. refl) l.waiting ∙ sym waits in
    λ i. record o { lists = record o.lists { ready = ready i; waiting = waiting i } }

pub turn_by_pick : (o o' : Objects) (l : Lists ℕ) (a : Turned) → o.lists ≡ world_lists l → turn_of_pick o (pick_of o) (slice_get o.lists.ready (pick_of o)) ≡ (a, o') → world_turn o ≡ (a, o')
turn_by_pick o o' l a e turn = ap {A = Objects} (λ p. turn_of_pick p (pick_of p) (slice_get p.lists.ready (pick_of p))) (not_due o l e) ∙ turn

-- None waits for a time.
pub turn_stuck : (o o' : Objects) (l : Lists ℕ) → o.lists ≡ world_lists l → slice_get o.lists.ready (pick_of o) ≡ None → o' ≡ o → world_turn o ≡ (Stuck, o')
turn_stuck o o' l e none same =
    turn_by_pick o o' l Stuck e (ap (turn_of_pick o (pick_of o)) none
    ∙ cond-false _ _ _ (ap {A = Lists Waiting} (λ ls. list_any (λ w. is_some w.deadline) ls.waiting) e ∙ any_waits (λ w. is_some w.deadline) (λ t. refl) l.waiting)
    ∙ ap {A = Objects} (λ p. (Stuck, p)) (sym same))

-- ---- the thread that is picked
-- A thread in the ready list has a home, where the objects stayed.
pub ready_home : (o o1 : Objects) (place t : ℕ) → IsSound o → slice_get o.lists.ready place ≡ Some t → o1.live ≡ o.live → HasHome o1 t
ready_home o o1 place t sound at same =
    let home = ready_thread o place t sound at in
    record {
      process = home.process;
      context = home.context;
      memory = home.space;
      is = ap (λ m. object_at (record o { live = m }) t) same ∙ home.runs.thread;
      runs = ap (λ m. running (object_at (record o { live = m }) home.process)) same ∙ home.runs.process;
    }

-- The next word of a tape, 0 past its end.
pub word_past : (words : List ℕ) (at : ℕ) → None ≡ slice_get words at → 0 ≡ slice_index words at
word_past words at none = ap (λ o. unwrap_or o 0) none ∙ unwrap_or-slice_get words at 0

-- A thread ran in the pages of its process, and keeps the registers that it has now.
pub ran_slice : (o : Objects) (live' : Live) (t p : ℕ) (context : Context) (ended : Ended) (live : Live) (context' : Context) → object_at o t ≡ Some (Thread p context)
    → RunsIn o.live p o.settings.slice context ended live context' → SetsRegisters live t context' live' → RunsSlice o t p context ended (record o { live = live' }) context'
ran_slice o live' t p context ended live context' is ran set =
    let stays : get live t ≡ Some (Thread p context) = thread_stays o.live live t p context ran.space ran.memory is ran.runs ran.now in
    let threads : Some (Thread set.process set.before) ≡ Some (Thread p context) = sym set.was ∙ stays in
    let home : set.process ≡ p = cc in
    record {
      memory = ran.memory;
      runs = ran.runs;
      run = record { context = context'; space = ran.space; trap = trap_of ended };
      led = ran.led;
      registers = refl;
      trap = refl;
      now = ap {A = Live} (λ m. record o { live = m }) (set.now ∙ ap (λ q. insert live t (Thread q context')) home ∙ ap {A = Live} (λ m. insert m t (Thread p context')) ran.now);
    }
