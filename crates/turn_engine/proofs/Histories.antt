-- Histories join, and begin.
use Rattle.std.proofs.Common.{◌≡◌, inl, inr, ℕ, List, [], ◌∷◌, ◌++◌, ◌+◌, refl, ◌∙◌, ap, subst, arith}
use Rattle.std.specs.declared.option.Option.{Option}
use Rattle.std.specs.declared.option.Option.TheVariants.{Some}
use Rattle.abi_calls.specs.declared.call.Call.{Call}
use Rattle.abi_calls.specs.declared.host.Crossing.{Crossing}
use Rattle.abi_calls.specs.World.{Told}
use Rattle.abi_calls.specs.Failing.{Leaves}
use Rattle.libos_state.specs.Pending.{pending}
use Rattle.turn_engine.specs.Moment.{Moment}
use Rattle.turn_engine.specs.History.{Event, Turns, Calls, Happens, Leads, turns_in, History, Broken}

leads-append : (xs ys : List Event) (a b c : Moment) → Leads xs a b → Leads ys b c → Leads (xs ++ ys) a c
unfolding Leads
leads-append [] ys a b c first next = subst (λ (m : Moment). Leads ys m c) first next
leads-append (x ∷ xs) ys a b c first next = (first.0, first.1, leads-append xs ys first.0 b c first.2 next)

turns_in-append : (xs ys : List Event) → turns_in (xs ++ ys) ≡ turns_in xs + turns_in ys
turns_in-append [] ys = omega arith
turns_in-append (Turns turned ∷ xs) ys =
    let e : turns_in (xs ++ ys) ≡ turns_in xs + turns_in ys = turns_in-append xs ys in
    omega arith
turns_in-append (Calls call reply ∷ xs) ys = turns_in-append xs ys

-- nothing was done
pub history_none : (a : Moment) → History 0 a a
unfolding Leads
history_none a = record { events = []; leads = refl; made = refl }

-- one event
pub history_one : (event : Event) (a b : Moment) → Happens event a b → History (turns_in (event ∷ [])) a b
unfolding Leads
history_one event a b happens = record { events = event ∷ []; leads = (b, happens, refl); made = refl }

-- one stretch after another
pub history_then : (m n : ℕ) (a b c : Moment) → History m a b → History n b c → History (m + n) a c
history_then m n a b c first next = record {
  events = first.events ++ next.events;
  leads = leads-append first.events next.events a b c first.leads next.leads;
  made = turns_in-append first.events next.events ∙ ap (λ k. k + turns_in next.events) first.made ∙ ap (λ k. m + k) next.made;
}

-- given up at a moment
pub broken_here : (n : ℕ) (a b : Moment) → History n a b → Broken n a b.told b.journal b.answered
broken_here n a b history = record { last = b; history = history; left = inl refl; kept = refl; counted = refl }

-- given up after a stretch
pub broken_then : (m n : ℕ) (a b : Moment) (told : Told) (journal : Option (List Crossing)) (answered : ℕ)
    → History m a b → Broken n b told journal answered → Broken (m + n) a told journal answered
broken_then m n a b told journal answered first next = record {
  last = next.last;
  history = history_then m n a b next.last first next.history;
  left = next.left;
  kept = next.kept;
  counted = next.counted;
}

-- the pending call failed
pub broken_call : (a : Moment) (call : Call) (told : Told) (journal : Option (List Crossing)) (answered : ℕ)
    → pending a.os ≡ Some call → Leaves a.objects call a.told told → journal ≡ a.journal → answered ≡ a.answered → Broken 0 a told journal answered
broken_call a call told journal answered asked left kept counted = record {
  last = a;
  history = history_none a;
  left = inr (record { call = call; asked = asked; left = left });
  kept = kept;
  counted = counted;
}
