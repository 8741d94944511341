-- The pages of a process, taken out where they stand.
use Rattle.std.specs.Prelude.{◌≡◌, ℕ, Bool, is_some, MatchOption}
use Rattle.std.specs.FinMap.{empty, get, insert}
use Rattle.std.specs.declared.option.Option.{Option}
use Rattle.std.specs.declared.option.Option.TheVariants.{None, Some}
use Rattle.std.proofs.Common.{refl, sym, ap, ◌∙◌}
use Rattle.guest_space.specs.Space.{Space}
use Rattle.abi_calls.specs.declared.object.Object.TheVariants.{Process, Thread, Event, Stream, ReadEnd, WriteEnd}
use Rattle.abi_calls.specs.Objects.{Live, Object, Objects, object_at, running}
use Rattle.bas_items.proofs.NumberMaps.{insert-present}
use Rattle.host_objects.specs.Handles.{Ties}
use Rattle.host_objects.specs.Taken.{emptied, without_pages, Took, HasNone}
use Rattle.host_objects.proofs.Running.{runs_there}
use Rattle.host_objects.proofs.Tied.{ties_set}

-- An object whose pages are taken out, among others.
left_by : (live : Live) (p : ℕ) (x : Object) → get live p ≡ Some x → insert live p (emptied x) ≡ without_pages live p (running (Some x))
left_by live p (Process memory None) at = refl
left_by live p (Process memory (Some code)) at = insert-present live p (Process memory (Some code)) at
left_by live p (Thread process context) at = insert-present live p (Thread process context) at
left_by live p (Event set) at = insert-present live p (Event set) at
left_by live p (Stream name) at = insert-present live p (Stream name) at
left_by live p (ReadEnd pipe) at = insert-present live p (ReadEnd pipe) at
left_by live p (WriteEnd pipe) at = insert-present live p (WriteEnd pipe) at

pub without_pages-emptied : (live live' : Live) (p : ℕ) (x x' : Object) (r : Option Space) → get live p ≡ Some x → r ≡ running (Some x) → x' ≡ emptied x → live' ≡ insert live p x' → live' ≡ without_pages live p r
without_pages-emptied live live' p x x' r at taken left set = set ∙ ap {A = Object} (insert live p) left ∙ left_by live p x at ∙ ap {A = Option Space} (without_pages live p) (sym taken)

pub ties_taken : (numbers : ℕ → Bool) (live live' : Live) (p : ℕ) (r : Option Space) → Ties numbers live → r ≡ running (get live p) → live' ≡ without_pages live p r → Ties numbers live'
ties_taken numbers live live' p (Some s) ties taken left = ties_set numbers live live' p (Process empty None) ties (runs_there _ s (sym taken)) left
ties_taken numbers live live' p None ties taken left = record { at = λ q some. ties.at q (sym (ap {A = Live} (λ m. is_some (get m q)) left) ∙ some) }

-- Only a process that runs has pages.
is_running_process : (x : Option Object) (s : Space) → running x ≡ Some s → x ≡ Some (Process s None)
is_running_process (Some (Process memory None)) s e = let same : memory ≡ s = cc in ap {A = Space} (λ m. Some (Process m None)) same
is_running_process (Some (Process memory (Some code))) s e = absurd cc
is_running_process (Some (Thread process context)) s e = absurd cc
is_running_process (Some (Event set)) s e = absurd cc
is_running_process (Some (Stream name)) s e = absurd cc
is_running_process (Some (ReadEnd pipe)) s e = absurd cc
is_running_process (Some (WriteEnd pipe)) s e = absurd cc
is_running_process None s e = absurd cc

pub took : (o : Objects) (live' : Live) (p : ℕ) (r : Option Space) → r ≡ running (object_at o p) → live' ≡ without_pages o.live p r → MatchOption r (HasNone o p (record o { live = live' })) (Took o p (record o { live = live' }))
took o live' p (Some s) taken left = record { was = is_running_process (object_at o p) s (sym taken); now = ap {A = Live} (λ m. record o { live = m }) left }
took o live' p None taken left = record { none = sym taken; same = ap {A = Live} (λ m. record o { live = m }) left }
