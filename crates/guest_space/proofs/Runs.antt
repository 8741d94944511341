-- Runs of pages added and protected one page after another.
use Rattle.std.proofs.Common.{◌≡◌, ℕ, suc, ◌+◌, ◌-◌, ◌≤◌, true, false, cond, refl, sym, ap, ◌∙◌, arith, Option, Some, None, inl, inr}
use Rattle.std.proofs.lemmas.Bool.{cases_eq}
use Rattle.std.proofs.lemmas.Bool.Decides.{nat_tests}
use Rattle.std.specs.Option.{option_map}
use Rattle.std.specs.FinMap.{get, insert}
use Rattle.guest_space.specs.Space.{Space, Frame, in_run, blank, with_run, protected, frame_in_run}
use Rattle.guest_space.proofs.Gets.{get-protected}
use Rattle.guest_space.proofs.Puts.{same_spaces, get-put_here, get-put_there}

pub with_run-zero : (s : Space) (page rights : ℕ) → with_run s page 0 rights ≡ s
unfolding with_run
with_run-zero s page rights = refl

pub with_run-suc : (s : Space) (page n rights : ℕ) → with_run s page (n + 1) rights ≡ insert (with_run s page n rights) (page + n) (blank rights)
unfolding with_run
with_run-suc s page n rights = ap (λ k. with_run s page k rights) (let e : n + 1 ≡ suc n = omega arith in e)

outside_none : (page q : ℕ) → in_run page 0 q ≡ false
outside_none page q = grind (arith, nat_tests)

in_run_more_last : (page n : ℕ) → in_run page (n + 1) (page + n) ≡ true
in_run_more_last page n = grind (arith, nat_tests)

in_run_more_other : (page n q : ℕ) → (q ≡ page + n → ⊥) → in_run page (n + 1) q ≡ in_run page n q
in_run_more_other page n q ne = grind (arith, nat_tests)

option_map_same : (f : Frame → Frame) (o : Option Frame) → ((x : Frame) → f x ≡ x) → option_map f o ≡ o
option_map_same f None same = refl
option_map_same f (Some x) same = ap Some (same x)

pub protected-zero : (s : Space) (page rights : ℕ) → protected s page 0 rights ≡ s
protected-zero s page rights =
    same_spaces (protected s page 0 rights) s
    (λ q. get-protected s page 0 rights q
    ∙ option_map_same (frame_in_run page 0 rights q) (get s q) (λ x. ap (λ b. record { rights = cond b rights x.rights; bytes = x.bytes }) (outside_none page q)))

-- a frame with other rights
abbrev pub with_frame_rights : ℕ → Frame → Frame
with_frame_rights rights frame = record { rights = rights; bytes = frame.bytes }

-- one page more, which isn't the last: as before
protected_other : (s : Space) (page n rights q : ℕ) → (q ≡ page + n → ⊥) → get (protected s page (n + 1) rights) q ≡ get (protected s page n rights) q
protected_other s page n rights q ne =
    get-protected s page (n + 1) rights q
    ∙ ap (λ b. option_map (λ frame. record { rights = cond b rights frame.rights; bytes = frame.bytes }) (get s q)) (in_run_more_other page n q ne)
    ∙ sym (get-protected s page n rights q)

-- the last page of a run that is one page longer
protected_last : (s : Space) (page n rights : ℕ) → get (protected s page (n + 1) rights) (page + n) ≡ option_map (with_frame_rights rights) (get (protected s page n rights) (page + n))
protected_last s page n rights =
    get-protected s page (n + 1) rights (page + n)
    ∙ ap (λ b. option_map (λ frame. record { rights = cond b rights frame.rights; bytes = frame.bytes }) (get s (page + n))) (in_run_more_last page n)
    ∙ sym (twice (get s (page + n)))
    ∙ ap (option_map (with_frame_rights rights)) (sym (get-protected s page n rights (page + n)))
  where
    twice : (o : Option Frame) → option_map (with_frame_rights rights) (option_map (frame_in_run page n rights (page + n)) o) ≡ option_map (with_frame_rights rights) o
    twice None = refl
    twice (Some frame) = refl

pub protected-more : (s : Space) (page n rights : ℕ) (frame : Frame) → get (protected s page n rights) (page + n) ≡ Some frame → protected s page (n + 1) rights ≡ insert (protected s page n rights) (page + n) (with_frame_rights rights frame)
protected-more s page n rights frame held =
    same_spaces _ _
    (λ q. elim (cases_eq q (page + n)) [
      | inl e ↦ ap (get (protected s page (n + 1) rights)) e
          ∙ protected_last s page n rights
          ∙ ap (option_map (with_frame_rights rights)) held
          ∙ sym (get-put_here (protected s page n rights) (page + n) q (with_frame_rights rights frame) e)
      | inr ne ↦ protected_other s page n rights q ne ∙ sym (get-put_there (protected s page n rights) (page + n) q (with_frame_rights rights frame) ne)
    ])

pub protected-more_absent : (s : Space) (page n rights : ℕ) → get (protected s page n rights) (page + n) ≡ None → protected s page (n + 1) rights ≡ protected s page n rights
protected-more_absent s page n rights absent =
    same_spaces _ _
    (λ q. elim (cases_eq q (page + n)) [
      | inl e ↦ ap (get (protected s page (n + 1) rights)) e
          ∙ protected_last s page n rights
          ∙ ap (option_map (with_frame_rights rights)) absent
          ∙ sym (ap (get (protected s page n rights)) e ∙ absent)
      | inr ne ↦ protected_other s page n rights q ne
    ])

-- ---- a loop over the pages of a run, where t is the space so far
pub protected-next : (s t : Space) (page q rights : ℕ) (frame : Frame) → page ≤ q → t ≡ protected s page (q - page) rights → get t q ≡ Some frame → insert t q (with_frame_rights rights frame) ≡ protected s page (q + 1 - page) rights
protected-next s t page q rights frame low is held =
    let last : page + (q - page) ≡ q = omega arith in
    let more : q - page + 1 ≡ q + 1 - page = omega arith in
    (λ i. insert (is i) (sym last i) (with_frame_rights rights frame))
    ∙ sym (protected-more s page (q - page) rights frame (ap (get (protected s page (q - page) rights)) last ∙ ap (λ r. get r q) (sym is) ∙ held))
    ∙ ap (λ n. protected s page n rights) more

pub protected-next_absent : (s t : Space) (page q rights : ℕ) → page ≤ q → t ≡ protected s page (q - page) rights → get t q ≡ None → t ≡ protected s page (q + 1 - page) rights
protected-next_absent s t page q rights low is absent =
    let last : page + (q - page) ≡ q = omega arith in
    let more : q - page + 1 ≡ q + 1 - page = omega arith in
    is
    ∙ sym (protected-more_absent s page (q - page) rights (ap (get (protected s page (q - page) rights)) last ∙ ap (λ r. get r q) (sym is) ∙ absent))
    ∙ ap (λ n. protected s page n rights) more
