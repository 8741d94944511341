-- Spaces by the rights of their pages: what runs of pages, other rights and other bytes make of them, and of how many
-- pages there are.
use Rattle.std.proofs.Common.{◌≡◌, ℕ, zero, suc, ◌+◌, ◌*◌, ◌/◌, ◌%◌, ◌<◌, ◌≤◌, ◌==◌, Bool, true, false, cond, is_some, bit_and, T, ◌&&◌, List, [], ◌∷◌, ◌++◌, map, length, refl, sym, ap, ◌∙◌, subst, arith, Option, Some, None, eq-eqb}
use Rattle.std.proofs.lemmas.Bool.{cond-true, cond-false}
use Rattle.std.proofs.lemmas.Bool.Decides.{nat_tests}
use Rattle.std.proofs.lemmas.List.{length-map}
use Rattle.std.proofs.lemmas.Option.{none-some, same_Some}
use Rattle.std.specs.Option.{option_map}
use Rattle.std.specs.Ordering.{nat_cmp, eq_by_cmp, is_lt}
use Rattle.std.specs.Cmp.{nat_cmp_total}
use Rattle.std.specs.FinMap.{FinMap, get, len, entries, entries_sorted, get-entries, len-entries, len-insert, nat_cmp-IsAntisymmetric}
use Rattle.std.specs.FinMap.Entries.{find, below_all, is_sorted, same_entries}
use Rattle.rv_core.specs.Memory.{Memory}
use Rattle.guest_space.specs.Space.{Space, Frame, in_run, blank, cell_in, memory_of, page_rights, with_run, protected, frame_in_run, with_memory, frame_of_memory}
use Rattle.guest_space.specs.Run.{first_held, first_missing, is_held, if_held, if_missing}
use Rattle.guest_space.specs.Access.{Forbidden, fault_of_cell, first_fault, with_bytes}
use Rattle.guest_space.proofs.Gets.{get-with_run, get-protected, get-with_memory}
use Rattle.guest_space.proofs.Puts.{same_spaces}
use Rattle.guest_space.proofs.FirstSome.{first_some-none}
use Rattle.guest_space.proofs.Cells.{memory_of-with_memory, SameRights-with_bytes}
use Rattle.guest_space.proofs.Bytes.{with_bytes-append}

-- ---- the rights of a page

rights_in_run : (b : Bool) (frame : Frame) (o : Option Frame) → option_map (λ (f : Frame). f.rights) (cond b (Some frame) o) ≡ cond b (Some frame.rights) (option_map (λ (f : Frame). f.rights) o)
rights_in_run true frame o = refl
rights_in_run false frame o = refl

pub page_rights-with_run : (s : Space) (page n rights q : ℕ) → page_rights (with_run s page n rights) q ≡ cond (in_run page n q) (Some rights) (page_rights s q)
page_rights-with_run s page n rights q =
    ap (option_map (λ (f : Frame). f.rights)) (get-with_run s page n rights q) ∙ rights_in_run (in_run page n q) _ (get {R = nat_cmp} s q)

rights_of_changed : (f : Frame → Frame) (g : ℕ → ℕ) (o : Option Frame) → ((x : Frame) → (f x).rights ≡ g x.rights) →
    option_map (λ (x : Frame). x.rights) (option_map f o) ≡ option_map g (option_map (λ (x : Frame). x.rights) o)
rights_of_changed f g None same = refl
rights_of_changed f g (Some x) same = ap Some (same x)

pub page_rights-protected : (s : Space) (page n rights q : ℕ) → page_rights (protected s page n rights) q ≡ option_map (λ old. cond (in_run page n q) rights old) (page_rights s q)
page_rights-protected s page n rights q =
    ap (option_map (λ (f : Frame). f.rights)) (get-protected s page n rights q)
    ∙ rights_of_changed (frame_in_run page n rights q) (λ old. cond (in_run page n q) rights old) (get {R = nat_cmp} s q) (λ x. refl)

same_rights : (m : Memory) (q : ℕ) (o : Option Frame) → option_map (λ (x : Frame). x.rights) (option_map (frame_of_memory m q) o) ≡ option_map (λ (x : Frame). x.rights) o
same_rights m q None = refl
same_rights m q (Some x) = refl

pub page_rights-with_memory : (s : Space) (m : Memory) (q : ℕ) → page_rights (with_memory s m) q ≡ page_rights s q
page_rights-with_memory s m q = ap (option_map (λ (f : Frame). f.rights)) (get-with_memory s m q) ∙ same_rights m q (get {R = nat_cmp} s q)

-- A page is there exactly where it has rights.
held_by_rights : (o : Option Frame) → is_some o ≡ is_some (option_map (λ (x : Frame). x.rights) o)
held_by_rights None = refl
held_by_rights (Some x) = refl

pub is_held-rights : (s : Space) (q : ℕ) → is_held s q ≡ is_some (page_rights s q)
is_held-rights s q = held_by_rights (get {R = nat_cmp} s q)

-- ---- how many pages there are

abbrev mark : {X : Type 0} → Option X → Option ℕ
mark None = None
mark (Some x) = Some 0

module _ {X : Type 0} where
  marked : List (ℕ × X) → List (ℕ × ℕ)
  marked es = map (λ e. (e.0, 0)) es

  mark_found : (b : Bool) (v : X) (o : Option X) → cond {A = Option ℕ} b (Some 0) (mark o) ≡ mark (cond b (Some v) o)
  mark_found true v o = refl
  mark_found false v o = refl

  find-marked : (q : ℕ) (es : List (ℕ × X)) → find nat_cmp q (marked es) ≡ mark (find nat_cmp q es)
  unfolding marked
  find-marked q [] = refl
  find-marked q (e ∷ es) = ap (cond {A = Option ℕ} (eq_by_cmp nat_cmp q e.0) (Some 0)) (find-marked q es) ∙ mark_found (eq_by_cmp nat_cmp q e.0) e.1 (find nat_cmp q es)

  below_all-marked : (k : ℕ) (es : List (ℕ × X)) → below_all nat_cmp k (marked es) ≡ below_all nat_cmp k es
  unfolding marked
  below_all-marked k [] = refl
  below_all-marked k (e ∷ es) = ap (λ b. is_lt (nat_cmp k e.0) && b) (below_all-marked k es)

  is_sorted-marked : (es : List (ℕ × X)) → is_sorted nat_cmp (marked es) ≡ is_sorted nat_cmp es
  unfolding marked
  is_sorted-marked [] = refl
  is_sorted-marked (e ∷ es) = λ i. below_all-marked e.0 es i && is_sorted-marked es i

  length-marked : (es : List (ℕ × X)) → length (marked es) ≡ length es
  unfolding marked
  length-marked es = length-map es (λ e. (e.0, 0))

marks_of_same : {X Y : Type 0} (a : Option X) (b : Option Y) → is_some a ≡ is_some b → mark a ≡ mark b
marks_of_same None None same = refl
marks_of_same None (Some y) same = absurd (cc)
marks_of_same (Some x) None same = absurd (cc)
marks_of_same (Some x) (Some y) same = refl

-- Maps from the same numbers have as many entries.
pub same_len : {X Y : Type 0} (s : FinMap nat_cmp X) (t : FinMap nat_cmp Y) → ((q : ℕ) → is_some (get s q) ≡ is_some (get t q)) → len s ≡ len t
same_len s t same =
    let found : (q : ℕ) → find nat_cmp q (marked (entries s)) ≡ find nat_cmp q (marked (entries t)) = λ q.
    find-marked q (entries s) ∙ ap mark (sym (get-entries s q))
    ∙ marks_of_same (get s q) (get t q) (same q)
    ∙ ap mark (get-entries t q) ∙ sym (find-marked q (entries t)) in
    let marks : marked (entries s) ≡ marked (entries t) =
    same_entries nat_cmp nat_cmp_total nat_cmp-IsAntisymmetric (marked (entries s)) (marked (entries t))
    (subst T (sym (is_sorted-marked (entries s))) (entries_sorted s)) (subst T (sym (is_sorted-marked (entries t))) (entries_sorted t)) found in
    len-entries s ∙ sym (length-marked (entries s)) ∙ ap length marks ∙ length-marked (entries t) ∙ sym (len-entries t)

-- Spaces with the same rights everywhere have as many pages.
pub len-same_rights : (s t : Space) → ((q : ℕ) → is_some (page_rights s q) ≡ is_some (page_rights t q)) → len s ≡ len t
len-same_rights s t same = same_len s t (λ q. is_held-rights s q ∙ same q ∙ sym (is_held-rights t q))

is_some-option_map : {A B : Type 0} (g : A → B) (o : Option A) → is_some (option_map g o) ≡ is_some o
is_some-option_map g None = refl
is_some-option_map g (Some x) = refl

pub len-protected : (s : Space) (page n rights : ℕ) → len (protected s page n rights) ≡ len s
len-protected s page n rights = len-same_rights _ s (λ q. ap is_some (page_rights-protected s page n rights q) ∙ is_some-option_map (λ old. cond (in_run page n q) rights old) (page_rights s q))

pub len-with_memory : (s : Space) (m : Memory) → len (with_memory s m) ≡ len s
len-with_memory s m = len-same_rights _ s (λ q. ap is_some (page_rights-with_memory s m q))

last_outside : (page n : ℕ) → in_run page n (page + n) ≡ false
last_outside page n = grind (arith, nat_tests)

-- A run of pages that aren't there.
pub len-with_run : (s : Space) (page n rights : ℕ) → ((q : ℕ) → page ≤ q → q < page + n → is_held s q ≡ false) → len (with_run s page n rights) ≡ len s + n
unfolding with_run
len-with_run s page zero rights absent = let e : len s ≡ len s + 0 = omega arith in e
len-with_run s page (suc n) rights absent =
    let missing : is_held (with_run s page n rights) (page + n) ≡ false =
    ap is_some (get-with_run s page n rights (page + n) ∙ cond-false _ _ _ (last_outside page n)) ∙ absent (page + n) (omega arith) (omega arith) in
    len-insert nat_cmp_total (with_run s page n rights) (page + n) (blank rights)
    ∙ cond-false _ _ _ missing
    ∙ ap (λ k. k + 1) (len-with_run s page n rights (λ q low high. absent q low (omega arith)))
    ∙ (let e : len s + n + 1 ≡ len s + suc n = omega arith in e)

-- ---- the first page that is there, or isn't, and the first byte that can't be accessed

pub first_held-none : (s : Space) (page n : ℕ) → ((q : ℕ) → page ≤ q → q < page + n → page_rights s q ≡ None) → first_held s page n ≡ None
first_held-none s page n absent = first_some-none (if_held s) page n (λ q low high. cond-false _ _ _ (is_held-rights s q ∙ ap is_some (absent q low high)))

pub first_missing-none : (s : Space) (page n rights : ℕ) → ((q : ℕ) → page ≤ q → q < page + n → page_rights s q ≡ Some rights) → first_missing s page n ≡ None
first_missing-none s page n rights there = first_some-none (if_missing s) page n (λ q low high. cond-true _ _ _ (is_held-rights s q ∙ ap is_some (there q low high)))

granted : (right rights k : ℕ) (o : Option Frame) → option_map (λ (x : Frame). x.rights) o ≡ Some rights → bit_and rights right ≡ right → fault_of_cell right (cell_in o k) ≡ None
granted right rights k None is has = absurd (none-some rights is)
granted right rights k (Some frame) is has =
    ap (λ r. cond (bit_and r right == right) None (Some Forbidden)) (same_Some frame.rights rights is) ∙ cond-true _ _ _ (eq-eqb (bit_and rights right) right has)

-- Bytes within a run of pages that have a right.
pub first_fault-none : (s : Space) (page n rights right at count : ℕ) → ((q : ℕ) → page ≤ q → q < page + n → page_rights s q ≡ Some rights) → bit_and rights right ≡ right →
    page * 4096 ≤ at → at + count ≤ (page + n) * 4096 → first_fault (memory_of s) right at count ≡ None
first_fault-none s page n rights right at count there has low high =
    first_some-none (λ a. fault_of_cell right (memory_of s a)) at count
    (λ a from to. granted right rights (a % 4096) (get {R = nat_cmp} s (a / 4096)) (there (a / 4096) (omega arith) (omega arith)) has)

-- ---- bytes put into the pages one list behind another

filled_twice : (m n : Memory) (q : ℕ) (o : Option Frame) → option_map (frame_of_memory n q) (option_map (frame_of_memory m q) o) ≡ option_map (frame_of_memory n q) o
filled_twice m n q None = refl
filled_twice m n q (Some x) = refl

pub with_memory-with_memory : (s : Space) (m n : Memory) → with_memory (with_memory s m) n ≡ with_memory s n
with_memory-with_memory s m n =
    same_spaces _ _
    (λ q. get-with_memory (with_memory s m) n q
    ∙ ap (option_map (frame_of_memory n q)) (get-with_memory s m q)
    ∙ filled_twice m n q (get {R = nat_cmp} s q)
    ∙ sym (get-with_memory s n q))

-- the bytes of a space written from an address on
abbrev pub filled : Space → ℕ → List ℕ → Space
filled s at bytes = with_memory s (with_bytes (memory_of s) at bytes)

pub filled-append : (s : Space) (at : ℕ) (xs ys : List ℕ) → filled (filled s at xs) (at + length xs) ys ≡ filled s at (xs ++ ys)
filled-append s at xs ys =
    ap (λ m. with_memory (filled s at xs) (with_bytes m (at + length xs) ys)) (memory_of-with_memory s (with_bytes (memory_of s) at xs) (SameRights-with_bytes (memory_of s) at xs))
    ∙ with_memory-with_memory s _ _
    ∙ ap (with_memory s) (sym (with_bytes-append (memory_of s) at xs ys))
