-- The relation of one list of rules and the function agree, and lists in layers go one after another.
use Rattle.std.proofs.Common.{◌≡◌, ℕ, ◌+◌, ◌<◌, ◌≤◌, ◌++◌, ◌∷◌, [], true, false, nat_eq, List, length, drop, Option, Some, None, option_map, sym, refl, ap, ◌∙◌, subst, ⊎_elim, arith, rules}
use Rattle.std.specs.List.{starts_with}
use Rattle.std.proofs.lemmas.Bool.{cases_Bool, false_from_ne_true, both_ways, lt-ltb, le-ltb, ne_eqb}
use Rattle.std.proofs.lemmas.Bool.Decides.{Decides-eqb}
use Rattle.std.proofs.lemmas.Slice.Eq.{starts_is}
use Rattle.std.proofs.lemmas.List.Prefix.{front_rest}
use Rattle.std.proofs.lemmas.List.{nil_from_length}
use Rattle.bas_names.specs.declared.Rule.{Rule}
use Rattle.bas_names.specs.Names.{Matches, NoneMatches, IsReached, Passes, replaced, denied, kept, passed, Passed, Named, Denied, TooLong, Empty, judged, continued, sub_from, sub}

-- One list

front_of_match : (name : List ℕ) (rule : Rule) → starts_with nat_eq name rule.from ≡ true → name ≡ rule.from ++ drop (length rule.from) name
front_of_match name rule test = (starts_is Decides-eqb name rule.from (starts_with nat_eq name rule.from) refl).0 test

test_of_match : (name : List ℕ) (rule : Rule) → Matches name rule → starts_with nat_eq name rule.from ≡ true
test_of_match name rule m = (starts_is Decides-eqb name rule.from (starts_with nat_eq name rule.from) refl).1 m.0 m.1

no_match : (name : List ℕ) (rule : Rule) → starts_with nat_eq name rule.from ≡ false → ¬ Matches name rule
no_match name rule test m = both_ways _ test (test_of_match name rule m)

-- a rule of the list decides
Passes-at_match : (rules : List Rule) (name : List ℕ) (rule : Rule) (rest : List ℕ) → IsReached rules name rule → name ≡ rule.from ++ rest → (to : Option (List ℕ)) → rule.to ≡ to → Passes rules name (option_map (λ t. t ++ rest) to)
Passes-at_match rules name rule rest reached front None is = denied rule reached (rest, front) is
Passes-at_match rules name rule rest reached front (Some to) is = replaced rule to rest reached front is

IsReached-later : (first rule : Rule) (rules : List Rule) (name : List ℕ) → ¬ Matches name first → IsReached rules name rule → IsReached (first ∷ rules) name rule
IsReached-later first rule rules name not reached = record {
  before = first ∷ reached.before;
  after = reached.after;
  place = ap (λ rest. first ∷ rest) reached.place;
  passed_over = (not, reached.passed_over);
}

Passes-later : (first : Rule) (rules : List Rule) (name : List ℕ) (new : Option (List ℕ)) → ¬ Matches name first → Passes rules name new → Passes (first ∷ rules) name new
Passes-later first rules name new not (replaced rule to rest reached front is) = replaced rule to rest (IsReached-later first rule rules name not reached) front is
Passes-later first rules name new not (denied rule reached match is) = denied rule (IsReached-later first rule rules name not reached) match is
Passes-later first rules name new not (kept none) = kept (not, none)

pub Passes-passed : (rules : List Rule) (name : List ℕ) → Passes rules name (passed rules name)
Passes-passed [] name = kept tt
Passes-passed (rule ∷ rules) name =
    let rest = drop (length rule.from) name in
    ⊎_elim
    (λ test. rw test (Passes-at_match (rule ∷ rules) name rule rest (record { before = []; after = rules; place = refl; passed_over = tt }) (front_of_match name rule test) rule.to refl))
    (λ test. rw test (Passes-later rule rules name (passed rules name) (no_match name rule test) (Passes-passed rules name)))
    (cases_Bool (starts_with nat_eq name rule.from))

passed-behind : (before rules : List Rule) (name : List ℕ) → NoneMatches name before → passed (before ++ rules) name ≡ passed rules name
passed-behind [] rules name none = refl
passed-behind (rule ∷ before) rules name none =
    rw (false_from_ne_true _ (λ test. none.0 (drop (length rule.from) name, front_of_match name rule test))) (passed-behind before rules name none.1)

passed-reached : (rules : List Rule) (name : List ℕ) (rule : Rule) → IsReached rules name rule → (rest : List ℕ) → name ≡ rule.from ++ rest → passed rules name ≡ option_map (λ to. to ++ rest) rule.to
passed-reached rules name rule reached rest front =
    ap (λ list. passed list name) reached.place
    ∙ (passed-behind reached.before (rule ∷ reached.after) name reached.passed_over
    ∙ rw (test_of_match name rule (rest, front), front_rest name rule.from rest front) refl)

passed-kept : (rules : List Rule) (name : List ℕ) → NoneMatches name rules → passed rules name ≡ Some name
passed-kept [] name none = refl
passed-kept (rule ∷ rules) name none =
    rw (false_from_ne_true _ (λ test. none.0 (drop (length rule.from) name, front_of_match name rule test))) (passed-kept rules name none.1)

pub passed-from_Passes : (rules : List Rule) (name : List ℕ) (new : Option (List ℕ)) → Passes rules name new → passed rules name ≡ new
passed-from_Passes rules name new (replaced rule to rest reached front is) = passed-reached rules name rule reached rest front ∙ ap (option_map (λ t. t ++ rest)) is
passed-from_Passes rules name new (denied rule reached match is) = passed-reached rules name rule reached match.0 match.1 ∙ ap (option_map (λ t. t ++ match.0)) is
passed-from_Passes rules name new (kept none) = passed-kept rules name none

pub Passes-iff : (rules : List Rule) (name : List ℕ) (new : Option (List ℕ)) → (Passes rules name new → passed rules name ≡ new) × (passed rules name ≡ new → Passes rules name new)
Passes-iff rules name new = (passed-from_Passes rules name new, λ is. subst (λ n. Passes rules name n) is (Passes-passed rules name))

pub Passes-is : (rules : List Rule) (name : List ℕ) (new : Option (List ℕ)) → new ≡ passed rules name → Passes rules name new
Passes-is rules name new is = (Passes-iff rules name new).1 (sym is)

-- Lists in layers

continued-Named : (end : Passed) → continued end (λ name. Named name) ≡ end
continued-Named (Named name) = refl
continued-Named (Denied number) = refl
continued-Named (TooLong number) = refl
continued-Named (Empty number) = refl

continued-continued : (end : Passed) (f g : List ℕ → Passed) → continued (continued end f) g ≡ continued end (λ name. continued (f name) g)
continued-continued (Named name) f g = refl
continued-continued (Denied number) f g = refl
continued-continued (TooLong number) f g = refl
continued-continued (Empty number) f g = refl

continued-same : (end : Passed) (f g : List ℕ → Passed) → ((name : List ℕ) → f name ≡ g name) → continued end f ≡ continued end g
continued-same (Named name) f g same = same name
continued-same (Denied number) f g same = refl
continued-same (TooLong number) f g same = refl
continued-same (Empty number) f g same = refl

pub sub-one : (rules : List Rule) (name : List ℕ) → sub (rules ∷ []) name ≡ judged 1 (passed rules name)
unfolding sub_from
sub-one rules name = continued-Named (judged 1 (passed rules name))

sub_from-append : (upper lower : List (List Rule)) (number : ℕ) (name : List ℕ) → sub_from (upper ++ lower) number name ≡ continued (sub_from upper number name) (λ new. sub_from lower (number + length upper) new)
unfolding sub_from
sub_from-append [] lower number name = ap (λ n. sub_from lower n name) (omega arith)
sub_from-append (rules ∷ upper) lower number name =
    continued-same (judged number (passed rules name)) _ _ (λ new. sub_from-append upper lower (number + 1) new ∙ ap (λ n. continued (sub_from upper (number + 1) new) (λ name'. sub_from lower n name')) (omega arith))
    ∙ sym (continued-continued (judged number (passed rules name)) _ _)

pub sub-append : (upper lower : List (List Rule)) (name : List ℕ) → sub (upper ++ lower) name ≡ continued (sub upper name) (λ new. sub_from lower (1 + length upper) new)
sub-append upper lower name = sub_from-append upper lower 1 name

-- What one list comes to

module _ (list : List Rule) (name : List ℕ) where
  pub sub-one_denied : None ≡ passed list name → sub (list ∷ []) name ≡ Denied 1
  sub-one_denied is = sub-one list name ∙ ap (judged 1) (sym is)

  pub sub-one_long : (new : List ℕ) → Some new ≡ passed list name → 80 < length new → sub (list ∷ []) name ≡ TooLong 1
  sub-one_long new is long = sub-one list name ∙ (ap (judged 1) (sym is) ∙ rw (lt-ltb 80 (length new) long) refl)

  pub sub-one_empty : (new : List ℕ) → Some new ≡ passed list name → new ≡ [] → sub (list ∷ []) name ≡ Empty 1
  sub-one_empty new is empty = sub-one list name ∙ (ap (judged 1) (sym is) ∙ ap (λ n. judged 1 (Some n)) empty)

  pub sub-one_named : (new : List ℕ) → Some new ≡ passed list name → length new ≤ 80 → (new ≡ [] → ⊥) → sub (list ∷ []) name ≡ Named new
  sub-one_named new is short full =
      sub-one list name
      ∙ (ap (judged 1) (sym is)
      ∙ rw (le-ltb 80 (length new) short, ne_eqb (length new) 0 (λ none. full (nil_from_length new none))) refl)
