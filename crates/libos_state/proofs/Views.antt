-- What a host answers below the lists of rules, over a view: the rows of its calls, and that a call which names no file
-- passes every list.
use Rattle.std.specs.Prelude.{◌≡◌, List, [], ◌∷◌}
use Rattle.std.specs.declared.result.Result.TheVariants.{Ok, Err}
use Rattle.std.proofs.Common.{refl, sym, ap, subst, ◌∙◌}
use Rattle.bas_names.specs.declared.Rule.{Rule}
use Rattle.abi_calls.specs.declared.call.Call.{Call}
use Rattle.abi_calls.specs.declared.reply.Reply.{Reply}
use Rattle.abi_calls.specs.Objects.{Objects}
use Rattle.abi_calls.specs.World as worlds
use Rattle.abi_calls.specs.World.{World, Contents, world_of}
use Rattle.abi_calls.specs.Abi as abi
use Rattle.abi_calls.specs.Abi.{IsFreeChoice}
use Rattle.abi_calls.specs.Rules.{NameFault, refusal_of, call_behind, call_below, unless_ended_at, AnswersThrough, AnswersBelow}
use Rattle.libos_state.specs.Records.{View}
use Rattle.libos_state.specs.Laws.{face_of}

-- The world of a view, and the view of the same lists above another world.
abbrev pub world : View → World
world w = world_of w.objects w.contents

abbrev pub Answer : Type 0
Answer = Reply × View

abbrev pub on_world : View → worlds.Answer → Answer
on_world w a = (a.0, record w { objects = a.1.objects; contents = a.1.contents })

abbrev pub with_objects : View → Objects → View
with_objects w o = record w { objects = o }

abbrev pub on_objects : View → Reply × Objects → Answer
on_objects w a = (a.0, with_objects w a.1)

abbrev pub on_contents : View → Reply × Contents → Answer
on_contents w a = (a.0, record w { contents = a.1 })

-- What the host answers, and the view after it.
abbrev pub answer : View → Call → Reply → Answer
answer w call r = on_world w (abi.answer (world w) call r)

pub record AnswersAs (w : View) (call : Call) (r : Reply) (w' : View) : Type 0 where
  pub choice : IsFreeChoice (world w) call r
  pub row : answer w call r ≡ (r, w')

-- A call is answered below the lists of rules.
abbrev pub Through : View → Call → Reply → View → Type 0
Through w call r w' = AnswersThrough (face_of w) w.contents call r (face_of w') w'.contents

-- A call that no list changes passes them all.
pub below_unchanged : (call : Call) → ((rules : List Rule) → call_behind rules call ≡ Ok call) → (lists : List (List Rule)) → call_below lists call ≡ Ok call
below_unchanged call passes [] = refl
below_unchanged call passes (rules ∷ lists) = ap (unless_ended_at (call_below lists)) (passes rules) ∙ below_unchanged call passes lists

-- What is answered below the lists is the host's row for the call that comes there.
pub answered_below : (w w' : View) (call below : Call) (r : Reply) → call_below w.rules call ≡ Ok below
    → Through w call r w' → AnswersAs w below r w'
answered_below w w' call below r passes through =
    let host : abi.Abi (world w) below r (world w') =
    subst (λ x. AnswersBelow w.objects w.contents x r w'.objects w'.contents) passes through.below in
    record {
      choice = host.choice;
      row = λ i. (
        (host.row i).0,
        record {
          rules = sym through.rules i;
          objects = (host.row i).1.objects;
          contents = (host.row i).1.contents;
        },
      );
    }

pub answered_unchanged : (w w' : View) (call : Call) (r : Reply) → ((rules : List Rule) → call_behind rules call ≡ Ok call)
    → Through w call r w' → AnswersAs w call r w'
answered_unchanged w w' call r passes through = answered_below w w' call call r (below_unchanged call passes w.rules) through

-- Where the lists end the name, nothing changes.
pub refused_at_lists : (w w' : View) (call : Call) (fault : NameFault) (r : Reply) → call_below w.rules call ≡ Err fault → Through w call r w'
    → ◌≡◌ {A = Answer} (refusal_of fault, w) (r, w')
refused_at_lists w w' call fault r ends through =
    let stays : (r ≡ refusal_of fault) × (w'.objects ≡ w.objects) × (w'.contents ≡ w.contents) =
    subst (λ x. AnswersBelow w.objects w.contents x r w'.objects w'.contents) ends through.below in
    λ i. (sym stays.0 i, record { rules = sym through.rules i; objects = sym stays.1 i; contents = sym stays.2 i })
