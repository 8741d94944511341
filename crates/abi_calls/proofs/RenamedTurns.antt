-- A turn under other numbers is the turn, under other numbers.
use Rattle.std.specs.Prelude.{◌≡◌, ℕ, Bool, true, false, ◌||◌, not, cond, nat_lt, length, is_some, slice_get}
use Rattle.std.specs.List.{list_any}
use Rattle.std.specs.Option.{option_map}
use Rattle.std.specs.declared.option.Option.{Option}
use Rattle.std.specs.declared.option.Option.TheVariants.{None, Some}
use Rattle.std.proofs.Common.{refl, ap, ◌∙◌}
use Rattle.rv_core.specs.declared.context.Context.{Context}
use Rattle.guest_space.specs.Space.{Space}
use Rattle.guest_space.specs.Running.{Ran as Run, run_space}
use Rattle.turn_sched.specs.Lists.{Waiting, renamed_waiting, renamed_lists}
use Rattle.turn_sched.proofs.Renamed.{list_any-map, slice_get-map, with_woken-renamed, picked_place-renamed, without_place-renamed, with_ready-renamed}
use Rattle.abi_calls.specs.declared.limits.TheConstants.{PIPE_BYTES}
use Rattle.abi_calls.specs.declared.object.Object.TheVariants.{Process, Thread, Event, Stream, ReadEnd, WriteEnd}
use Rattle.abi_calls.specs.declared.threads.Turned.{Turned}
use Rattle.abi_calls.specs.declared.threads.Turned.TheVariants.{Ran, Idle, Stuck, Exception}
use Rattle.abi_calls.specs.Objects.{Object, Objects, object_at, running, is_read_end, is_write_end, pipe_bytes, with_object, with_lists}
use Rattle.abi_calls.specs.Renaming.{Renaming, renamed_object, renamed_objects, renamed_turn}
use Rattle.turn_sched.specs.Clock.{is_past}
use Rattle.abi_calls.specs.Turn.{is_no_byte, is_signalled, is_signalled_object, time_of, is_due, with_due_ready, with_turn, idle_turn, pick_of, pick_word, with_pick, run_end, with_run_of, run_answer, run_in, run_thread, turn_of_pick, world_turn}
use Rattle.abi_calls.proofs.RenamedObjects.{object_at-renamed, with_object-renamed, some_object-renamed}

running-renamed : (name : ℕ → ℕ) (x : Option Object) → running (option_map (renamed_object name) x) ≡ running x
running-renamed name None = refl
running-renamed name (Some (Process memory None)) = refl
running-renamed name (Some (Process memory (Some code))) = refl
running-renamed name (Some (Thread process context)) = refl
running-renamed name (Some (Event set)) = refl
running-renamed name (Some (Stream stream)) = refl
running-renamed name (Some (ReadEnd pipe)) = refl
running-renamed name (Some (WriteEnd pipe)) = refl

read_end-renamed : (name : ℕ → ℕ) (pipe : ℕ) (x : Object) → is_read_end pipe (renamed_object name x) ≡ is_read_end pipe x
read_end-renamed name pipe (Process memory code) = refl
read_end-renamed name pipe (Thread process context) = refl
read_end-renamed name pipe (Event set) = refl
read_end-renamed name pipe (Stream stream) = refl
read_end-renamed name pipe (ReadEnd number) = refl
read_end-renamed name pipe (WriteEnd number) = refl

write_end-renamed : (name : ℕ → ℕ) (pipe : ℕ) (x : Object) → is_write_end pipe (renamed_object name x) ≡ is_write_end pipe x
write_end-renamed name pipe (Process memory code) = refl
write_end-renamed name pipe (Thread process context) = refl
write_end-renamed name pipe (Event set) = refl
write_end-renamed name pipe (Stream stream) = refl
write_end-renamed name pipe (ReadEnd number) = refl
write_end-renamed name pipe (WriteEnd number) = refl

module _ (ρ : Renaming) where
  signalled-renamed : (o : Objects) (x : Option Object) → is_signalled_object (renamed_objects ρ.to o) (option_map (renamed_object ρ.to) x) ≡ is_signalled_object o x
  signalled-renamed o None = refl
  signalled-renamed o (Some (Process memory code)) = refl
  signalled-renamed o (Some (Thread process context)) = refl
  signalled-renamed o (Some (Event set)) = refl
  signalled-renamed o (Some (Stream stream)) = refl
  signalled-renamed o (Some (ReadEnd pipe)) = ap (λ b. not (is_no_byte (pipe_bytes o pipe)) || not b) (some_object-renamed ρ (is_write_end pipe) (write_end-renamed ρ.to pipe) o.live)
  signalled-renamed o (Some (WriteEnd pipe)) = ap (λ b. nat_lt (length (pipe_bytes o pipe)) PIPE_BYTES || not b) (some_object-renamed ρ (is_read_end pipe) (read_end-renamed ρ.to pipe) o.live)

  due-renamed : (o : Objects) (w : Waiting) → is_due (renamed_objects ρ.to o) (renamed_waiting ρ.to w) ≡ is_due o w
  due-renamed o w = ap (λ b. b || is_past (time_of o) w.deadline)
      (list_any-map ρ.to (is_signalled (renamed_objects ρ.to o)) (is_signalled o)
      (λ h. ap (is_signalled_object (renamed_objects ρ.to o)) (object_at-renamed ρ o h) ∙ signalled-renamed o (object_at o h)) w.handles)

  with_due_ready-renamed : (o : Objects) → with_due_ready (renamed_objects ρ.to o) ≡ renamed_objects ρ.to (with_due_ready o)
  with_due_ready-renamed o = λ i. record (renamed_objects ρ.to o) { lists = with_woken-renamed ρ.to (is_due o) (is_due (renamed_objects ρ.to o)) (due-renamed o) o.lists i }

  turn_if : (b : Bool) (x y : Turned × Objects) → cond b (renamed_turn ρ.to x) (renamed_turn ρ.to y) ≡ renamed_turn ρ.to (cond b x y)
  turn_if true x y = refl
  turn_if false x y = refl

  idle_turn-renamed : (o : Objects) → idle_turn (renamed_objects ρ.to o) ≡ renamed_turn ρ.to (idle_turn o)
  idle_turn-renamed o =
      ap (λ b. cond b (renamed_turn ρ.to (Idle, with_turn o)) (renamed_turn ρ.to (Stuck, o)))
      (list_any-map (renamed_waiting ρ.to) (λ w. is_some w.deadline) (λ w. is_some w.deadline) (λ w. refl) o.lists.waiting)
      ∙ turn_if (list_any (λ w. is_some w.deadline) o.lists.waiting) (Idle, with_turn o) (Stuck, o)

  with_pick-renamed : (o : Objects) (place : ℕ) → with_pick (renamed_objects ρ.to o) place ≡ renamed_objects ρ.to (with_pick o place)
  with_pick-renamed o place = λ i. record (renamed_objects ρ.to (with_pick o place)) { lists = without_place-renamed ρ.to o.lists place i }

  run_end-renamed : (o : Objects) (t p : ℕ) (cx : Context) (trap : Option (ℕ × ℕ)) → run_end (renamed_objects ρ.to o) (ρ.to t) (ρ.to p) cx trap ≡ renamed_turn ρ.to (run_end o t p cx trap)
  run_end-renamed o t p cx None = λ i. (Ran, with_lists (renamed_objects ρ.to o) (with_ready-renamed ρ.to o.lists t i))
  run_end-renamed o t p cx (Some trap) = refl

  with_run_of-renamed : (o : Objects) (t p : ℕ) (run : Run) → with_run_of (renamed_objects ρ.to o) (ρ.to t) (ρ.to p) run ≡ renamed_objects ρ.to (with_run_of o t p run)
  with_run_of-renamed o t p run =
      ap (λ (x : Objects). with_object x (ρ.to t) (Thread (ρ.to p) run.context)) (with_object-renamed ρ o p (Process run.space None))
      ∙ with_object-renamed ρ (with_object o p (Process run.space None)) t (Thread p run.context)

  run_in-renamed : (o : Objects) (t p : ℕ) (cx : Context) (x : Option Space) → run_in (renamed_objects ρ.to o) (ρ.to t) (ρ.to p) cx x ≡ renamed_turn ρ.to (run_in o t p cx x)
  run_in-renamed o t p cx None = refl
  run_in-renamed o t p cx (Some s) =
      let run = run_space o.settings.slice cx s in
      ap (λ (x : Objects). run_end x (ρ.to t) (ρ.to p) run.context run.trap) (with_run_of-renamed o t p run)
      ∙ run_end-renamed (with_run_of o t p run) t p run.context run.trap

  run_thread-renamed : (o : Objects) (t : ℕ) (x : Option Object) → run_thread (renamed_objects ρ.to o) (ρ.to t) (option_map (renamed_object ρ.to) x) ≡ renamed_turn ρ.to (run_thread o t x)
  run_thread-renamed o t (Some (Thread p cx)) =
      ap (run_in (renamed_objects ρ.to o) (ρ.to t) (ρ.to p) cx) (ap running (object_at-renamed ρ o p) ∙ running-renamed ρ.to (object_at o p))
      ∙ run_in-renamed o t p cx (running (object_at o p))
  run_thread-renamed o t (Some (Process memory code)) = refl
  run_thread-renamed o t (Some (Event set)) = refl
  run_thread-renamed o t (Some (Stream stream)) = refl
  run_thread-renamed o t (Some (ReadEnd pipe)) = refl
  run_thread-renamed o t (Some (WriteEnd pipe)) = refl
  run_thread-renamed o t None = refl

  turn_of_pick-renamed : (o : Objects) (place : ℕ) (x : Option ℕ) → turn_of_pick (renamed_objects ρ.to o) place (option_map ρ.to x) ≡ renamed_turn ρ.to (turn_of_pick o place x)
  turn_of_pick-renamed o place None = idle_turn-renamed o
  turn_of_pick-renamed o place (Some t) =
      (λ i. run_thread (with_pick-renamed o place i) (ρ.to t) (object_at-renamed ρ o t i))
      ∙ run_thread-renamed (with_pick o place) t (object_at o t)

  pub world_turn-renamed : (o : Objects) → world_turn (renamed_objects ρ.to o) ≡ renamed_turn ρ.to (world_turn o)
  world_turn-renamed o =
      let awake : Objects = with_due_ready o in
      ap (λ (x : Objects). turn_of_pick x (pick_of x) (slice_get x.lists.ready (pick_of x))) (with_due_ready-renamed o)
      ∙ (λ i. turn_of_pick (renamed_objects ρ.to awake) (picked_place-renamed ρ.to (pick_word awake) awake.lists i) (slice_get (renamed_lists ρ.to awake.lists).ready (picked_place-renamed ρ.to (pick_word awake) awake.lists i)))
      ∙ ap (turn_of_pick (renamed_objects ρ.to awake) (pick_of awake)) (slice_get-map ρ.to awake.lists.ready (pick_of awake))
      ∙ turn_of_pick-renamed awake (pick_of awake) (slice_get awake.lists.ready (pick_of awake))
