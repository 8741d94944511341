-- What the code on descriptors goes by: what is named without a descriptor, and the first that is free.
use Rattle.std.specs.Prelude.{◌≡◌, ℕ, ◌+◌, ◌-◌, ◌<◌, ◌==◌, true, false, is_some}
use Rattle.std.specs.List.{list_any}
use Rattle.std.specs.declared.option.Option.{Option}
use Rattle.std.specs.declared.option.Option.TheVariants.{None, Some}
use Rattle.std.proofs.Common.{refl, sym}
use Rattle.guest_space.specs.First.{first_some}
use Rattle.guest_space.proofs.FirstSome.{first_some-next, first_some-stop}
use Rattle.turn_sched.proofs.Renamed.{list_any-map}
use Rattle.libos_state.specs.declared.state.LibOs.{LibOs}
use Rattle.libos_state.specs.Descriptors.{redescribed, left_by, without_descriptor}
use Rattle.libos_state.specs.Fits.{is_described}

pub described_without : (os : LibOs) (p fd id : ℕ) → list_any (λ n. list_any (λ d. d.description == id) (left_by p fd n)) os.processes ≡ is_described (without_descriptor os p fd) id
described_without os p fd id = sym (list_any-map (redescribed (left_by p fd)) (λ n. list_any (λ d. d.description == id) n.descriptors) (λ n. list_any (λ d. d.description == id) (left_by p fd n)) (λ _. refl) os.processes)

module _ (f : ℕ → Option ℕ) (at end : ℕ) (more : at < end) where
  pub first_stops : (x : Option ℕ) → x ≡ f at → is_some x ≡ true → x ≡ first_some f at (end - at)
  first_stops None is some = absurd (cc)
  first_stops (Some n) is some = sym (first_some-stop f at end n more (sym is))

  pub first_goes_on : (x : Option ℕ) → x ≡ f at → is_some x ≡ false → first_some f (at + 1) (end - (at + 1)) ≡ first_some f at (end - at)
  first_goes_on None is none = first_some-next f at end more (sym is)
  first_goes_on (Some n) is none = absurd (cc)
