-- Names, and lists of rules that change them. A name is a text of 1 to 80 bytes. It passes through
-- layers of rules from the top down, one list in each.
use Rattle.std.specs.Prelude.{◌≡◌, ℕ, ◌+◌, ◌==◌, nat_eq, nat_lt, if◌then◌else◌, List, [], ◌∷◌, ◌++◌, length, drop}
use Rattle.std.specs.List.{starts_with, AllByRecursion}
use Rattle.std.specs.Option.{option_map}
use Rattle.std.specs.declared.option.Option.{Option}
use Rattle.std.specs.declared.option.Option.TheVariants.{None, Some}
use Rattle.std.specs.declared.result.Result.{Result}
use Rattle.std.specs.declared.result.Result.TheVariants.{Ok, Err}
use Rattle.bas_names.specs.declared.Rule.{Rule}
use Rattle.bas_names.specs.declared.NameError.{NameError}
use Rattle.bas_names.specs.declared.NameError.TheVariants as errors

-- One list, in words

-- The rule's `from` is a prefix of the name.
abbrev pub Matches : List ℕ → Rule → Type 0
Matches name rule = (rest : List ℕ) × (name ≡ rule.from ++ rest)

-- No rule of the list matches the name.
abbrev pub NoneMatches : List ℕ → List Rule → Type 0
NoneMatches name rules = AllByRecursion (λ rule. ¬ Matches name rule) rules

-- The rule stands in the list behind rules that don't match the name.
pub record IsReached (rules : List Rule) (name : List ℕ) (rule : Rule) : Type 0 where
  pub before : List Rule
  pub after : List Rule
  pub place : rules ≡ before ++ rule ∷ after
  pub passed_over : NoneMatches name before

-- What one list makes of a name: the first rule that matches counts. Its `to` takes the place of
-- its `from`, or the name is denied where it has no `to`. Where no rule matches, the name stays.
pub data Passes (rules : List Rule) (name : List ℕ) : Option (List ℕ) → Type 0 where
  replaced : (rule : Rule) (to rest : List ℕ) → IsReached rules name rule → name ≡ rule.from ++ rest
      → rule.to ≡ Some to → Passes rules name (Some (to ++ rest))
  denied : (rule : Rule) → IsReached rules name rule → Matches name rule → rule.to ≡ None
      → Passes rules name None
  kept : NoneMatches name rules → Passes rules name (Some name)

-- One list, as a function

-- The name behind the list, or `None` where it is denied there.
abbrev pub passed : List Rule → List ℕ → Option (List ℕ)
passed [] name = Some name
passed (rule ∷ rules) name =
    if starts_with nat_eq name rule.from
    then option_map (λ to. to ++ drop (length rule.from) name) rule.to
    else passed rules name

-- Lists in layers

-- Where a name ends: behind all lists, or at the list of that number, counted from 1 at the top.
pub data Passed : Type 0 where
  Named : List ℕ → Passed
  Denied : ℕ → Passed
  TooLong : ℕ → Passed
  Empty : ℕ → Passed

-- What a list of that number gives is judged as a name.
abbrev pub judged : ℕ → Option (List ℕ) → Passed
judged number None = Denied number
judged number (Some name) =
    if nat_lt 80 (length name) then TooLong number
    else (if length name == 0 then Empty number else Named name)

-- What comes of a name that the lists above have let through goes on through the lists below.
abbrev pub continued : Passed → (List ℕ → Passed) → Passed
continued (Named name) below = below name
continued (Denied number) below = Denied number
continued (TooLong number) below = TooLong number
continued (Empty number) below = Empty number

-- The lists from the one of that number on.
unfoldable pub sub_from : List (List Rule) → ℕ → List ℕ → Passed
sub_from [] number name = Named name
sub_from (rules ∷ lists) number name =
    continued (judged number (passed rules name)) (λ new. sub_from lists (number + 1) new)

-- All lists, the top one first.
abbrev pub sub : List (List Rule) → List ℕ → Passed
sub lists name = sub_from lists 1 name

-- The answer tells where a name ends that passes through one list. Want of memory tells nothing.
abbrev pub Tells : Result (Option (List ℕ)) NameError → Passed → Type 0
Tells (Ok (Some new)) end = end ≡ Named new
Tells (Ok None) end = end ≡ Denied 1
Tells (Err errors.TooLong) end = end ≡ TooLong 1
Tells (Err errors.Empty) end = end ≡ Empty 1
Tells (Err errors.Memory) end = Unit {0}
