-- A world is sound in one way at most, so a value can keep that it is.
use Rattle.std.specs.Prelude.{◌≡◌, false, is_some}
use Rattle.std.specs.FinMap.{empty}
use Rattle.std.specs.FinMap as map
use Rattle.std.specs.declared.option.Option.{Option}
use Rattle.std.specs.declared.option.Option.TheVariants.{None, Some}
use Rattle.std.specs.Coded.{Coded-set, coded_bool, coded_ℕ, le_prop, ×_prop, Unit-prop}
use Rattle.std.proofs.Common.{refl, sym, ap, ◌∙◌}
use Rattle.std.proofs.lemmas.Bool.{false≢true}
use mathlib.Core.Path.{path_j'}
use Rattle.guest_space.specs.Space.{Space, frame_code, IsSpace}
use Rattle.abi_calls.specs.declared.object.Object.TheVariants.{Process, Thread, Event, Stream, ReadEnd, WriteEnd}
use Rattle.abi_calls.specs.Objects.{Object, Objects}
use Rattle.abi_calls.specs.Sound.{IsSoundObject, IsSound}

module _ {A : Type 0} where
  from_none : (x : Option A) → is_some x ≡ false → x ≡ None
  from_none None e = refl
  from_none (Some a) e = absurd (false≢true (sym e))

  from_none-ap : (x : Option A) (p : x ≡ None) → from_none x (ap is_some p) ≡ p
  unfolding from_none
  from_none-ap x p = path_j' (λ y q. from_none y (ap is_some q) ≡ q) refl p

  none_prop : (x : Option A) → IsProp (x ≡ None)
  none_prop x p q = sym (from_none-ap x p) ∙ ap (from_none x) (Coded-set coded_bool (is_some x) false (ap is_some p) (ap is_some q)) ∙ from_none-ap x q

pub IsSpace-prop : (s : Space) → IsProp (IsSpace s)
IsSpace-prop s = hlevel (Coded-set coded_ℕ, le_prop)

pub IsSoundObject-prop : (o : Objects) (x : Object) → IsProp (IsSoundObject o x)
IsSoundObject-prop o (Process s None) = ×_prop (IsSpace-prop s) le_prop
IsSoundObject-prop o (Process s (Some code)) = Coded-set (map.code coded_ℕ frame_code) s empty
IsSoundObject-prop o (Thread p context) = Coded-set coded_bool _ _
IsSoundObject-prop o (Event set) = Unit-prop
IsSoundObject-prop o (Stream name) = Coded-set coded_bool _ _
IsSoundObject-prop o (ReadEnd pipe) = Coded-set coded_bool _ _
IsSoundObject-prop o (WriteEnd pipe) = Coded-set coded_bool _ _

pub IsSound-prop : (o : Objects) → IsProp (IsSound o)
IsSound-prop o = hlevel (Coded-set coded_bool, Coded-set coded_ℕ, none_prop, le_prop, IsSoundObject-prop)
