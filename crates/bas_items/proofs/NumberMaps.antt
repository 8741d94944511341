-- Finite maps from numbers, by their look-ups: what a look-up finds after a change, and which changes come to the same.
-- Maps whose look-ups agree are one map, and so the equations below `same_numbers`.
use Rattle.std.specs.Prelude.{◌≡◌, ◌≢◌, ℕ, Bool, true, false, not, ◌==◌, if◌then◌else◌}
use Rattle.std.specs.Ordering.{nat_cmp}
use Rattle.std.specs.Cmp.{nat_cmp_total, unsigned_tied}
use Rattle.std.specs.FinMap as finite
use Rattle.std.specs.FinMap.{FinMap, get, insert, remove, retain_keys, empty, same_map, nat_cmp-IsAntisymmetric}
use Rattle.std.specs.declared.option.Option.{Option}
use Rattle.std.specs.declared.option.Option.TheVariants.{None, Some}
use Rattle.std.proofs.Common.{refl, sym, ap, ◌∙◌, eqb-true, ne_eqb, eq-eqb, cond}
use Rattle.std.proofs.lemmas.Bool.{cond-true, cond-false}

module _ {X : Type 0} where
  pub get-empty : (q : ℕ) → get {X = X} {R = nat_cmp} empty q ≡ None
  get-empty q = finite.get-empty nat_cmp q

  pub get-insert : (m : FinMap nat_cmp X) (k : ℕ) (v : X) (q : ℕ) → get (insert m k v) q ≡ (if q == k then Some v else get m q)
  get-insert m k v q = finite.get-insert nat_cmp_total m k v q ∙ ap (λ b. cond b (Some v) (get m q)) (unsigned_tied q k)

  pub get-remove : (m : FinMap nat_cmp X) (k q : ℕ) → get (remove m k) q ≡ (if q == k then None else get m q)
  get-remove m k q = finite.get-remove nat_cmp_total m k q ∙ ap (λ b. cond b None (get m q)) (unsigned_tied q k)

  pub get-retain_keys : (m : FinMap nat_cmp X) (keeps : ℕ → Bool) (q : ℕ) → get (retain_keys m keeps) q ≡ (if keeps q then get m q else None)
  get-retain_keys m keeps q = finite.get-retain_keys m keeps q (λ x tied. ap keeps (sym (nat_cmp-IsAntisymmetric q x tied)))

  -- the same at the key itself, and at every other
  pub get-insert-same : (m : FinMap nat_cmp X) (k : ℕ) (v : X) → get (insert m k v) k ≡ Some v
  get-insert-same m k v = get-insert m k v k ∙ cond-true _ _ _ (eq-eqb k k refl)

  pub get-insert-other : (m : FinMap nat_cmp X) (k : ℕ) (v : X) (q : ℕ) → q ≢ k → get (insert m k v) q ≡ get m q
  get-insert-other m k v q other = get-insert m k v q ∙ cond-false _ _ _ (ne_eqb q k other)

  pub same_numbers : (m n : FinMap nat_cmp X) → ((q : ℕ) → get m q ≡ get n q) → m ≡ n
  same_numbers m n same = same_map nat_cmp_total nat_cmp-IsAntisymmetric m n same

  over : (b : Bool) (x y z : Option X) → cond b x (cond b y z) ≡ cond b x z
  over true x y z = refl
  over false x y z = refl

  -- two changes at one key
  pub insert-insert : (m : FinMap nat_cmp X) (k : ℕ) (v w : X) → insert (insert m k v) k w ≡ insert m k w
  insert-insert m k v w =
      same_numbers _ _ (λ q. get-insert _ k w q ∙ ap (cond (q == k) (Some w)) (get-insert m k v q) ∙ over (q == k) _ _ _ ∙ sym (get-insert m k w q))

  pub insert-remove : (m : FinMap nat_cmp X) (k : ℕ) (v : X) → insert (remove m k) k v ≡ insert m k v
  insert-remove m k v =
      same_numbers _ _ (λ q. get-insert _ k v q ∙ ap (cond (q == k) (Some v)) (get-remove m k q) ∙ over (q == k) _ _ _ ∙ sym (get-insert m k v q))

  -- a look-up at the key itself, at a test that is kept
  at_key : (m : FinMap nat_cmp X) (k q : ℕ) (x : Option X) → get m k ≡ x → (b : Bool) → (q == k) ≡ b → cond b x (get m q) ≡ get m q
  at_key m k q x there true same = sym there ∙ ap (get m) (sym (eqb-true q k same))
  at_key m k q x there false other = refl

  -- changes that change nothing
  pub insert-present : (m : FinMap nat_cmp X) (k : ℕ) (v : X) → get m k ≡ Some v → insert m k v ≡ m
  insert-present m k v there = same_numbers _ m (λ q. get-insert m k v q ∙ at_key m k q (Some v) there (q == k) refl)

  turned : (b : Bool) (x y : Option X) → cond (not b) x y ≡ cond b y x
  turned true x y = refl
  turned false x y = refl

  -- what is kept of a map
  pub retain_keys-others : (m : FinMap nat_cmp X) (k : ℕ) → retain_keys m (λ q. not (q == k)) ≡ remove m k
  retain_keys-others m k = same_numbers _ _ (λ q. get-retain_keys m _ q ∙ turned (q == k) _ _ ∙ sym (get-remove m k q))

  kept_at : (b : Bool) (x : Option X) → ((v : X) → x ≡ Some v → b ≡ true) → cond b x None ≡ x
  kept_at true x all = refl
  kept_at false None all = refl
  kept_at false (Some v) all = absurd (cc (all v refl))

  pub retain_keys-all : (m : FinMap nat_cmp X) (keeps : ℕ → Bool) → ((q : ℕ) (v : X) → get m q ≡ Some v → keeps q ≡ true) → retain_keys m keeps ≡ m
  retain_keys-all m keeps all = same_numbers _ m (λ q. get-retain_keys m keeps q ∙ kept_at (keeps q) (get m q) (all q))
