-- The lists under other names: each change commutes with a renaming, where the test of a thread that waits does.
use Rattle.std.specs.Prelude.{◌≡◌, ℕ, zero, suc, ◌%◌, Bool, true, false, ◌||◌, ◌&&◌, not, cond, List, [], ◌∷◌, ◌++◌, map, filter, length, take, drop, slice_get, remove as remove_at}
use Rattle.std.specs.List.{list_any, list_all}
use Rattle.std.specs.Option.{option_map}
use Rattle.std.specs.declared.option.Option.{Option}
use Rattle.std.specs.declared.option.Option.TheVariants.{None, Some}
use Rattle.std.proofs.Common.{refl, sym, ap, ◌∙◌}
use Rattle.turn_sched.specs.Lists.{Waiting, Lists, with_ready, with_woken, without_place, picked_place, renamed_waiting, renamed_lists}

module _ {X Y : Type 0} (f : X → Y) where
  pub list_any-map : (p : Y → Bool) (q : X → Bool) → ((x : X) → p (f x) ≡ q x) → (xs : List X) → list_any p (map f xs) ≡ list_any q xs
  list_any-map p q same [] = refl
  list_any-map p q same (x ∷ xs) = λ i. same x i || list_any-map p q same xs i

  kept_or : (b : Bool) (x : X) (xs : List X) → cond b (f x ∷ map f xs) (map f xs) ≡ map f (cond b (x ∷ xs) xs)
  kept_or true x xs = refl
  kept_or false x xs = refl

  pub filter-map : (p : Y → Bool) (q : X → Bool) → ((x : X) → p (f x) ≡ q x) → (xs : List X) → filter p (map f xs) ≡ map f (filter q xs)
  filter-map p q same [] = refl
  filter-map p q same (x ∷ xs) = (λ i. cond (same x i) (f x ∷ filter-map p q same xs i) (filter-map p q same xs i)) ∙ kept_or (q x) x (filter q xs)

  pub append-map : (xs ys : List X) → map f xs ++ map f ys ≡ map f (xs ++ ys)
  append-map [] ys = refl
  append-map (x ∷ xs) ys = ap (λ zs. f x ∷ zs) (append-map xs ys)

  pub length-map : (xs : List X) → length (map f xs) ≡ length xs
  length-map [] = refl
  length-map (x ∷ xs) = ap suc (length-map xs)

  take-map : (n : ℕ) (xs : List X) → take n (map f xs) ≡ map f (take n xs)
  take-map zero xs = refl
  take-map (suc n) [] = refl
  take-map (suc n) (x ∷ xs) = ap (λ zs. f x ∷ zs) (take-map n xs)

  drop-map : (n : ℕ) (xs : List X) → drop n (map f xs) ≡ map f (drop n xs)
  drop-map zero xs = refl
  drop-map (suc n) [] = refl
  drop-map (suc n) (x ∷ xs) = drop-map n xs

  remove-map : (place : ℕ) (xs : List X) → remove_at (map f xs) place ≡ map f (remove_at xs place)
  remove-map place xs = (λ i. take-map place xs i ++ drop-map (suc place) xs i) ∙ append-map (take place xs) (drop (suc place) xs)

  pub slice_get-map : (xs : List X) (place : ℕ) → slice_get (map f xs) place ≡ option_map f (slice_get xs place)
  slice_get-map [] place = refl
  slice_get-map (x ∷ xs) zero = refl
  slice_get-map (x ∷ xs) (suc place) = slice_get-map xs place

module _ (name : ℕ → ℕ) where
  threads-renamed : (ws : List Waiting) → map (λ (w : Waiting). w.thread) (map (renamed_waiting name) ws) ≡ map name (map (λ (w : Waiting). w.thread) ws)
  threads-renamed [] = refl
  threads-renamed (w ∷ ws) = ap (λ zs. name w.thread ∷ zs) (threads-renamed ws)

  pub with_woken-renamed : (due due' : Waiting → Bool) → ((w : Waiting) → due' (renamed_waiting name w) ≡ due w) → (l : Lists Waiting) →
      with_woken (λ w. w.thread) due' (renamed_lists name l) ≡ renamed_lists name (with_woken (λ w. w.thread) due l)
  with_woken-renamed due due' same l =
      let woken = ap (λ (ws : List Waiting). map name l.ready ++ map (λ (w : Waiting). w.thread) ws) (filter-map (renamed_waiting name) due' due same l.waiting)
      ∙ ap (λ (ts : List ℕ). map name l.ready ++ ts) (threads-renamed (filter due l.waiting))
      ∙ append-map name l.ready (map (λ (w : Waiting). w.thread) (filter due l.waiting)) in
      let stays = filter-map (renamed_waiting name) (λ w. not (due' w)) (λ w. not (due w)) (λ w. ap not (same w)) l.waiting in
      λ i. record (renamed_lists name l) { ready = woken i; waiting = stays i }

  pub picked_place-renamed : (word : ℕ) (l : Lists Waiting) → picked_place word (renamed_lists name l) ≡ picked_place word l
  picked_place-renamed word l = ap (λ n. word % n) (length-map name l.ready)

  pub without_place-renamed : (l : Lists Waiting) (place : ℕ) → without_place (renamed_lists name l) place ≡ renamed_lists name (without_place l place)
  without_place-renamed l place = λ i. record (renamed_lists name (without_place l place)) { ready = remove-map name place l.ready i }

  pub with_ready-renamed : (l : Lists Waiting) (t : ℕ) → with_ready (renamed_lists name l) (name t) ≡ renamed_lists name (with_ready l t)
  with_ready-renamed l t = λ i. record (renamed_lists name l) { ready = append-map name l.ready (t ∷ []) i }
