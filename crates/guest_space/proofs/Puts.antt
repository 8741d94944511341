-- A page put into a space, in place of what was there.
use Rattle.std.proofs.Common.{◌≡◌, ℕ, ◌==◌, cond, sym, ap, ◌∙◌, Some, inl, inr}
use Rattle.std.proofs.lemmas.Bool.{eq-eqb, ne_eqb, cases_eq}
use Rattle.std.specs.Cmp.{nat_cmp_total}
use Rattle.std.specs.FinMap.{get, insert, get-insert, same_map, nat_cmp-IsAntisymmetric}
use Rattle.guest_space.specs.Space.{Space, Frame}
use Rattle.guest_space.proofs.Gets.{eq_by_nat_cmp}

pub get-put : (s : Space) (page q : ℕ) (frame : Frame) → get (insert s page frame) q ≡ cond (q == page) (Some frame) (get s q)
get-put s page q frame = get-insert nat_cmp_total s page frame q ∙ ap (λ b. cond b (Some frame) (get s q)) (eq_by_nat_cmp q page)

pub get-put_here : (s : Space) (page q : ℕ) (frame : Frame) → q ≡ page → get (insert s page frame) q ≡ Some frame
get-put_here s page q frame e = get-put s page q frame ∙ ap (λ b. cond b (Some frame) (get s q)) (eq-eqb q page e)

pub get-put_there : (s : Space) (page q : ℕ) (frame : Frame) → (q ≡ page → ⊥) → get (insert s page frame) q ≡ get s q
get-put_there s page q frame ne = get-put s page q frame ∙ ap (λ b. cond b (Some frame) (get s q)) (ne_eqb q page ne)

pub same_spaces : (s t : Space) → ((q : ℕ) → get s q ≡ get t q) → s ≡ t
same_spaces s t same = same_map nat_cmp_total nat_cmp-IsAntisymmetric s t same

pub put_same : (s : Space) (page : ℕ) (frame : Frame) → get s page ≡ Some frame → insert s page frame ≡ s
put_same s page frame held =
    same_spaces (insert s page frame) s
    (λ q. elim (cases_eq q page) [
      | inl e ↦ get-put_here s page q frame e ∙ sym held ∙ ap (get s) (sym e)
      | inr ne ↦ get-put_there s page q frame ne
    ])

pub put-put : (s : Space) (page : ℕ) (f g : Frame) → insert (insert s page f) page g ≡ insert s page g
put-put s page f g =
    same_spaces (insert (insert s page f) page g) (insert s page g)
    (λ q. elim (cases_eq q page) [
      | inl e ↦ get-put_here (insert s page f) page q g e ∙ sym (get-put_here s page q g e)
      | inr ne ↦ get-put_there (insert s page f) page q g ne ∙ get-put_there s page q f ne ∙ sym (get-put_there s page q g ne)
    ])

pub put_comm : (s : Space) (j k : ℕ) (f g : Frame) → (j ≡ k → ⊥) → insert (insert s k f) j g ≡ insert (insert s j g) k f
put_comm s j k f g apart =
    same_spaces (insert (insert s k f) j g) (insert (insert s j g) k f)
    (λ q. elim (cases_eq q j) [
      | inl e ↦ get-put_here (insert s k f) j q g e ∙ sym (get-put_there (insert s j g) k q f (λ h. apart (sym e ∙ h)) ∙ get-put_here s j q g e)
      | inr ne ↦ elim (cases_eq q k) [
        | inl e ↦ get-put_there (insert s k f) j q g ne ∙ get-put_here s k q f e ∙ sym (get-put_here (insert s j g) k q f e)
        | inr nf ↦ get-put_there (insert s k f) j q g ne ∙ get-put_there s k q f nf ∙ sym (get-put_there (insert s j g) k q f nf ∙ get-put_there s j q g ne)
      ]
    ])
