-- Which runs of pages are free, and the lowest of them.
use Rattle.std.specs.Prelude.{◌≡◌, ℕ, zero, suc, ◌+◌, ◌-◌, ◌≤◌, ◌<◌, Bool, true, false, not, if◌then◌else◌, is_some, Decides}
use Rattle.std.specs.FinMap.{get}
use Rattle.std.specs.Option.{option_or}
use Rattle.std.specs.declared.option.Option.{Option}
use Rattle.std.specs.declared.option.Option.TheVariants.{None, Some}
use Rattle.std.proofs.Common.{refl, sym, ap, subst, ◌∙◌, arith, inl, inr}
use Rattle.std.proofs.lemmas.Bool.{cases_eq, cond-true, cond-false}
use Rattle.guest_space.specs.Space.{Space, Frame}
use Rattle.guest_space.specs.First.{first_some}
use Rattle.guest_space.specs.Run.{first_held, if_held}
use Rattle.guest_space.proofs.FirstSome.{first_some-zero, first_some-suc, first_some-none, first_some_none_at, first_some-next, first_some-stop, first_some-end}
use Rattle.mono_model.specs.Starting.{STACK_PAGE}
use Rattle.mono_model.specs.Mapping.{is_free, if_free, lowest_free, HasNoPages, IsLowestFreeIn}

-- ---- free runs

absent : (page : ℕ) (x : Option Frame) → (if is_some x then Some page else None) ≡ None → x ≡ None
absent page None is = refl
absent page (Some frame) is = absurd (cc)

nothing_held : (x : Option ℕ) → not (is_some x) ≡ true → x ≡ None
nothing_held None is = refl
nothing_held (Some page) is = absurd (cc)

pub is_free-decides : (s : Space) (page count : ℕ) → Decides (is_free s page count) (HasNoPages s page count)
is_free-decides s page count = (
  λ free q low high. absent q (get s q) (first_some_none_at (if_held s) page count q (nothing_held (first_held s page count) free) low high),
  λ none. ap (λ x. not (is_some x)) (first_some-none (if_held s) page count (λ q low high. ap (λ x. if is_some x then Some q else None) (none q low high))),
)

-- ---- the lowest

module _ (s : Space) (count : ℕ) where
  -- what is told of the first free one of n runs
  abbrev Told : ℕ → ℕ → Option ℕ → Type 0
  Told from n None = (page : ℕ) → from ≤ page → page < from + n → is_free s page count ≡ false
  Told from n (Some page) = (from ≤ page) × (page < from + n) × (is_free s page count ≡ true)
      × ((other : ℕ) → from ≤ other → other < page → is_free s other count ≡ false)

  skipped : (from : ℕ) → is_free s from count ≡ false → (end : ℕ) → ((other : ℕ) → from + 1 ≤ other → other < end → is_free s other count ≡ false)
      → (other : ℕ) → from ≤ other → other < end → is_free s other count ≡ false
  skipped from held end rest other low high = elim (cases_eq other from) [
    | inl e ↦ ap (λ p. is_free s p count) e ∙ held
    | inr ne ↦ rest other (omega arith) high
  ]

  told_behind : (from n : ℕ) → is_free s from count ≡ false → (x : Option ℕ) → Told (from + 1) n x → Told from (suc n) x
  told_behind from n held None rest = λ page low high. skipped from held (from + suc n) (λ p l h. rest p l (omega arith)) page low high
  told_behind from n held (Some page) rest =
      let low = rest.0 in
      let high = rest.1 in
      (omega arith, omega arith, rest.2, skipped from held page rest.3)

  told_first : (from n : ℕ) (x : Option ℕ) → Told (from + 1) n x → (free : Bool) → is_free s from count ≡ free
      → Told from (suc n) (option_or (if free then Some from else None) x)
  told_first from n x rest true is = (omega arith, omega arith, is, λ other low high. absurd (omega arith))
  told_first from n x rest false is = told_behind from n is x rest

  told : (n from : ℕ) → Told from n (first_some (if_free s count) from n)
  told zero from = subst (Told from 0) (sym (first_some-zero (if_free s count) from)) (λ page low high. absurd (omega arith))
  told (suc n) from = subst (Told from (suc n)) (sym (first_some-suc (if_free s count) from n))
      (told_first from n (first_some (if_free s count) (from + 1) n) (told n (from + 1)) (is_free s from count) refl)

  told_below : (from : ℕ) (x : Option ℕ) → Told from (STACK_PAGE + 1 - count - from) x → IsLowestFreeIn s from count x
  told_below from None t = λ page low below. t page low (omega arith)
  told_below from (Some page) t =
      let low = t.0 in
      let high = t.1 in
      record {
        from_there = low;
        below_stack = omega arith;
        free = (is_free-decides s page count).0 t.2;
        lowest = t.3;
      }

  pub lowest_free-told : (from : ℕ) → IsLowestFreeIn s from count (lowest_free s from count)
  lowest_free-told from = told_below from (lowest_free s from count) (told (STACK_PAGE + 1 - count - from) from)

  -- ---- from one page to the next

  pub lowest_free-here : (from : ℕ) → from + count ≤ STACK_PAGE → is_free s from count ≡ true → lowest_free s from count ≡ Some from
  lowest_free-here from below free =
      first_some-stop (if_free s count) from (STACK_PAGE + 1 - count) from (omega arith) (cond-true (is_free s from count) (Some from) None free)

  pub lowest_free-next : (from : ℕ) → from + count ≤ STACK_PAGE → is_free s from count ≡ false → lowest_free s from count ≡ lowest_free s (from + 1) count
  lowest_free-next from below held =
      sym (first_some-next (if_free s count) from (STACK_PAGE + 1 - count) (omega arith) (cond-false (is_free s from count) (Some from) None held))

  pub lowest_free-end : (from : ℕ) → STACK_PAGE < from + count → lowest_free s from count ≡ None
  lowest_free-end from past = first_some-end (if_free s count) from (STACK_PAGE + 1 - count) (omega arith)
