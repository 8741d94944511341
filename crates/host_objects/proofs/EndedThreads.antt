-- Threads of a process that end one after another, and the look for the next one.
use Rattle.std.specs.Prelude.{◌≡◌, ℕ, ◌-◌, ◌<◌, Bool, true, false, ◌==◌, ◌||◌, not, List, is_some}
use Rattle.std.specs.List.{list_any}
use Rattle.std.specs.FinMap.{empty, get, len, remove, retain_keys, len-remove, empty_of_len}
use Rattle.std.specs.Cmp.{nat_cmp_total}
use Rattle.std.specs.Ordering.{nat_cmp}
use Rattle.std.specs.declared.option.Option.{Option}
use Rattle.std.specs.declared.option.Option.TheVariants.{None, Some}
use Rattle.std.proofs.Common.{refl, sym, ap, ◌∙◌, cond, arith, eqb-true}
use Rattle.turn_sched.specs.Lists.{Lists}
use Rattle.turn_sched.specs.Schedules.{without_thread}
use Rattle.abi_calls.specs.declared.object.Object.TheVariants.{Process}
use Rattle.abi_calls.specs.Objects.{Object, Objects, Live, Pipes, object_at, is_thread_of, running, without_handles, has_end}
use Rattle.abi_calls.specs.Processes.{without_threads}
use Rattle.bas_items.proofs.NumberMaps.{get-retain_keys, same_numbers, retain_keys-all, get-empty}
use Rattle.host_objects.specs.System.{world_lists}
use Rattle.host_objects.specs.Rows.{HasNoThread}
use Rattle.host_objects.proofs.Lists.{without_numbers-twice, without_numbers-none}
use Rattle.host_objects.proofs.Rows.{ended_objects, no_pipes}

-- ---- one thread, and then the others
-- The number of a thread of p ends; what is a thread of p after that was one before.
ends_after : (p t q : ℕ) (x : Option Object) → (q ≡ t → is_thread_of p x ≡ true) → ((q == t) || is_thread_of p (cond (not (q == t)) x None)) ≡ is_thread_of p x
ends_after p t q x there =
    elim (q == t) as (λ b. (q == t) ≡ b → (b || is_thread_of p (cond (not b) x None)) ≡ is_thread_of p x) [
      | true ↦ λ same. sym (there (eqb-true q t same))
      | false ↦ λ other. refl
    ] refl

cond-cond : {X : Type 0} (a b : Bool) (x : Option X) → cond (not b) (cond (not a) x None) None ≡ cond (not (a || b)) x None
cond-cond true true x = refl
cond-cond true false x = refl
cond-cond false true x = refl
cond-cond false false x = refl

-- A thread of a process ends first, and then the others: all of them end.
pub without_threads-next : (o : Objects) (p t : ℕ) → is_thread_of p (object_at o t) ≡ true → o.pipes ≡ empty → without_threads (without_handles o (λ k. k == t)) p ≡ without_threads o p
without_threads-next o p t thread none =
    let ends : ℕ → Bool = λ k. is_thread_of p (get {R = nat_cmp} o.live k) in
    let live1 : Live = retain_keys o.live (λ k. not (k == t)) in
    let after : ℕ → Bool = λ k. is_thread_of p (get {R = nat_cmp} live1 k) in
    let same : (k : ℕ) → ((k == t) || after k) ≡ ends k = λ k.
    ap (λ x. (k == t) || is_thread_of p x) (get-retain_keys o.live (λ j. not (j == t)) k)
    ∙ ends_after p t k (get o.live k) (λ is. ap (λ j. is_thread_of p (get {R = nat_cmp} o.live j)) is ∙ thread) in
    let live : retain_keys live1 (λ k. not (after k)) ≡ retain_keys o.live (λ k. not (ends k)) = same_numbers _ _ (λ q.
    get-retain_keys live1 _ q ∙ ap (λ x. cond (not (after q)) x None) (get-retain_keys o.live (λ j. not (j == t)) q)
    ∙ cond-cond (q == t) (after q) (get o.live q) ∙ ap (λ b. cond (not b) (get o.live q) None) (same q) ∙ sym (get-retain_keys o.live _ q)) in
    let pipes1 : Pipes = retain_keys o.pipes (has_end live1) in
    let pipes : retain_keys pipes1 (has_end (retain_keys live1 (λ k. not (after k)))) ≡ retain_keys o.pipes (has_end (retain_keys o.live (λ k. not (ends k)))) =
    no_pipes pipes1 _ (no_pipes o.pipes _ none ∙ none) ∙ no_pipes o.pipes _ none ∙ sym (no_pipes o.pipes _ none) in
    λ i. record {
      live = live i;
      pipes = pipes i;
      lists = without_numbers-twice (λ k. k == t) after ends same o.lists i;
      positions = o.positions;
      settings = o.settings;
    }

-- Where there is none, nothing ends.
pub without_threads-none : (o : Objects) (p : ℕ) → HasNoThread o p → o.pipes ≡ empty → without_threads o p ≡ o
without_threads-none o p has none =
    λ i. record {
      live = retain_keys-all o.live (λ k. not (is_thread_of p (object_at o k))) (λ q v _. ap not (has.none q)) i;
      pipes = no_pipes o.pipes (has_end (retain_keys o.live (λ k. not (is_thread_of p (object_at o k))))) none i;
      lists = without_numbers-none (λ k. is_thread_of p (object_at o k)) has.none o.lists i;
      positions = o.positions;
      settings = o.settings;
    }

-- ---- fewer objects each time
no_object : (m : Live) (t : ℕ) (x : Object) → get m t ≡ Some x → len m ≡ 0 → ⊥
no_object m t x there none =
    let gone : get m t ≡ None = ap (λ n. get {R = nat_cmp} n t) (empty_of_len m none) ∙ get-empty t in
    cc

pub len-remove_there : (m : Live) (t : ℕ) (x : Object) → get m t ≡ Some x → len (remove m t) < len m
len-remove_there m t x there =
    let less : len (remove m t) ≡ len m - 1 = len-remove nat_cmp_total m t ∙ ap (λ o. cond (is_some o) (len m - 1) (len m)) there in
    let some : len m ≡ 0 → ⊥ = no_object m t x there in
    omega arith

pub thread_there : (p : ℕ) (x : Option Object) → is_thread_of p x ≡ true → (y : Object) × (x ≡ Some y)
thread_there p (Some x) is = (x, refl)
thread_there p None is = absurd (cc)

pub len-remove_thread : (m : Live) (p t : ℕ) → is_thread_of p (get m t) ≡ true → len (remove m t) < len m
len-remove_thread m p t is = let there = thread_there p (get m t) is in len-remove_there m t there.0 there.1

-- ---- the look for a thread
-- Each thread of a process is among the numbers that are left.
pub record IsLeft (live : Live) (p : ℕ) (rest : List ℕ) : Type 0 where
  pub among : (q : ℕ) → is_thread_of p (get {R = nat_cmp} live q) ≡ true → list_any (λ k. k == q) rest ≡ true

-- ---- the process itself stays
stays_at : (p : ℕ) (x : Option Object) → is_some (running x) ≡ true → is_some (cond (not (is_thread_of p x)) x None) ≡ true
stays_at p (Some (Process memory code)) runs = refl
stays_at p _ runs = absurd (cc)

pub process_stays : (o o' : Objects) (p : ℕ) → is_some (running (object_at o p)) ≡ true → o' ≡ without_threads o p → is_some (object_at o' p) ≡ true
process_stays o o' p runs e =
    ap (λ q. is_some (object_at q p)) e ∙ ap is_some (get-retain_keys o.live _ p) ∙ stays_at p (object_at o p) runs

-- ---- a step of the loop
pub ended_next : (o o' : Objects) (p t : ℕ) (l : Lists ℕ) → is_thread_of p (object_at o t) ≡ true → o.pipes ≡ empty → o.lists ≡ world_lists l → o' ≡ record o { live = remove o.live t; lists = world_lists (without_thread l t) } → without_threads o' p ≡ without_threads o p
ended_next o o' p t l thread none lists e = ap (λ q. without_threads q p) (sym (ended_objects o o' t l none lists e)) ∙ without_threads-next o p t thread none
