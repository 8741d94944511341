-- What a turn can be, once those that are due are ready: idle or stuck where no thread is ready, and else a run of one ready thread.
use Rattle.std.specs.Prelude.{◌≡◌, ◌≢◌, ℕ, ◌<◌, Bool, true, false, cond, List, [], ◌∷◌, length, slice_get, is_some, ◌⊎◌}
use Rattle.std.specs.List.{list_any}
use Rattle.std.specs.declared.option.Option.{Option}
use Rattle.std.specs.declared.option.Option.TheVariants.{None, Some}
use Rattle.std.proofs.Common.{refl, sym, ap, subst, ◌∙◌, arith, inl, inr, mod-lt, get_or}
use Rattle.std.proofs.lemmas.Option.{slice_get-get_or}
use Rattle.rv_core.specs.declared.context.Context.{Context}
use Rattle.guest_space.specs.Space.{Space}
use Rattle.guest_space.specs.Running.{Ran as Run, run_space}
use Rattle.abi_calls.specs.declared.object.Object.TheVariants.{Process, Thread}
use Rattle.abi_calls.specs.declared.threads.Turned.{Turned}
use Rattle.abi_calls.specs.declared.threads.Turned.TheVariants.{Ran, Idle, Stuck, Exception}
use Rattle.turn_sched.specs.declared.settings.Positions.{Positions}
use Rattle.abi_calls.specs.Objects.{Objects, object_at, running}
use Rattle.abi_calls.specs.Sound.{IsSound}
use Rattle.abi_calls.specs.Turn.{world_turn, turn_of_pick, run_thread, run_in, run_answer, run_end, with_run_of, with_pick, pick_of, with_turn, with_due_ready, idle_turn}
use Rattle.std.specs.FinMap.{insert}
use Rattle.bas_items.proofs.NumberMaps.{get-insert-same, get-insert-other}
use Rattle.abi_calls.proofs.Facts.{RunsIn, Home, ready_thread}

-- Where no thread stands at the picked place, a turn is idle or stuck.
pub world_turn-none : (o : Objects) → slice_get (with_due_ready o).lists.ready (pick_of (with_due_ready o)) ≡ None → world_turn o ≡ idle_turn (with_due_ready o)
world_turn-none o none = let awake = with_due_ready o in ap (turn_of_pick awake (pick_of awake)) none

pub world_turn-empty : (o : Objects) → (with_due_ready o).lists.ready ≡ [] → world_turn o ≡ idle_turn (with_due_ready o)
world_turn-empty o none = world_turn-none o (ap (λ ready. slice_get ready (pick_of (with_due_ready o))) none)

-- Else the thread that stands there runs in its process.
pub world_turn-runs : (o : Objects) (t p : ℕ) (context : Context) (space : Space) → slice_get (with_due_ready o).lists.ready (pick_of (with_due_ready o)) ≡ Some t → RunsIn (with_due_ready o) t p context space →
    world_turn o ≡ run_answer (with_pick (with_due_ready o) (pick_of (with_due_ready o))) t p (run_space o.settings.slice context space)
world_turn-runs o t p context space at runs =
    let awake = with_due_ready o in
    ap (turn_of_pick awake (pick_of awake)) at
    ∙ ap (run_thread (with_pick awake (pick_of awake)) t) runs.thread ∙ ap (run_in (with_pick awake (pick_of awake)) t p context) runs.process

-- The thread that a turn picks, its process, and what running it leads to.
pub record Picks (o : Objects) : Type 0 where
  pub thread : ℕ
  pub at : slice_get (with_due_ready o).lists.ready (pick_of (with_due_ready o)) ≡ Some thread
  pub process : ℕ
  pub context : Context
  pub space : Space
  pub runs : RunsIn (with_due_ready o) thread process context space
  pub turned : world_turn o ≡ run_answer (with_pick (with_due_ready o) (pick_of (with_due_ready o))) thread process (run_space o.settings.slice context space)

picks_home : (o : Objects) (t : ℕ) → slice_get (with_due_ready o).lists.ready (pick_of (with_due_ready o)) ≡ Some t → Home (with_due_ready o) t → Picks o
picks_home o t at home = record {
  thread = t;
  at = at;
  process = home.process;
  context = home.context;
  space = home.space;
  runs = home.runs;
  turned = world_turn-runs o t home.process home.context home.space at home.runs;
}

not_empty : (xs : List ℕ) → xs ≢ [] → 0 < length xs
not_empty [] some = absurd (some refl)
not_empty (x ∷ xs) some = omega arith

-- With ready threads, one is picked and runs.
pub picks-ready : (o : Objects) → IsSound (with_due_ready o) → (with_due_ready o).lists.ready ≢ [] → Picks o
picks-ready o sound some =
    let awake = with_due_ready o in
    let at : slice_get awake.lists.ready (pick_of awake) ≡ Some (get_or awake.lists.ready (pick_of awake) 0) = slice_get-get_or awake.lists.ready (pick_of awake) 0 (mod-lt _ (not_empty awake.lists.ready some)) in
    picks_home o _ at (ready_thread awake (pick_of awake) _ sound at)

-- A turn is one of the two.
pub world_turn-cases : (o : Objects) → IsSound (with_due_ready o) → (((with_due_ready o).lists.ready ≡ []) × (world_turn o ≡ idle_turn (with_due_ready o))) ⊎ Picks o
world_turn-cases o sound = elim (with_due_ready o).lists.ready as (λ xs. (with_due_ready o).lists.ready ≡ xs → (((with_due_ready o).lists.ready ≡ []) × (world_turn o ≡ idle_turn (with_due_ready o))) ⊎ Picks o) [
  | [] ↦ λ is. inl (is, world_turn-empty o is)
  | t ∷ ts ↦ λ is. inr (picks-ready o sound (λ none. absurd (let e : t ∷ ts ≡ [] = sym is ∙ none in cc)))
] refl

-- A thread isn't its own process.
pub home_apart : (o : Objects) (t p : ℕ) (context : Context) (space : Space) → RunsIn o t p context space → t ≢ p
home_apart o t p context space runs same = absurd (let e : None ≡ Some space = ap running (sym runs.thread) ∙ ap (λ q. running (object_at o q)) same ∙ runs.process in cc)

-- The positions after a turn, by how it ends.
abbrev pub positions_after : Objects → Turned → Positions
positions_after o Ran = (with_pick o (pick_of o)).positions
positions_after o Idle = (with_turn o).positions
positions_after o Stuck = o.positions
positions_after o (Exception up) = (with_pick o (pick_of o)).positions

-- A turn changes the positions so, and no settings.
pub record Moves (o : Objects) (a : Turned) (o' : Objects) : Type 0 where
  pub positions : o'.positions ≡ positions_after o a
  pub settings : o'.settings ≡ o.settings

run_moves : (o : Objects) (t p : ℕ) (run : Run) (trap : Option (ℕ × ℕ)) →
    Moves o (run_end (with_run_of (with_pick o (pick_of o)) t p run) t p run.context trap).0 (run_end (with_run_of (with_pick o (pick_of o)) t p run) t p run.context trap).1
run_moves o t p run None = record { positions = refl; settings = refl }
run_moves o t p run (Some trap) = record { positions = refl; settings = refl }

idle_moves : (o : Objects) (b : Bool) → (let x : Turned × Objects = cond b (Idle, with_turn o) (Stuck, o) in Moves o x.0 x.1)
idle_moves o true = record { positions = refl; settings = refl }
idle_moves o false = record { positions = refl; settings = refl }

pub world_turn-moves : (o : Objects) (a : Turned) (o' : Objects) → IsSound (with_due_ready o) → world_turn o ≡ (a, o') → Moves (with_due_ready o) a o'
world_turn-moves o a o' sound is = subst (λ (x : Turned × Objects). Moves (with_due_ready o) x.0 x.1) is (elim (world_turn-cases o sound) [
  | inl idle ↦ subst (λ (x : Turned × Objects). Moves (with_due_ready o) x.0 x.1) (sym idle.1) (idle_moves (with_due_ready o) (list_any (λ w. is_some w.deadline) (with_due_ready o).lists.waiting))
  | inr picks ↦ subst (λ (x : Turned × Objects). Moves (with_due_ready o) x.0 x.1) (sym picks.turned)
      (let run = run_space o.settings.slice picks.context picks.space in run_moves (with_due_ready o) picks.thread picks.process run run.trap)
])
