-- The pages of the process that is made, and the calls on them.
use Rattle.std.specs.Prelude.{◌≡◌, ℕ, ◌+◌, ◌-◌, ◌^◌, ◌≤◌, ◌<◌, Bool, true, false, cond, not, ◌&&◌, ◌||◌, ◌==◌, if◌then◌else◌, nat_lt, nat_le, is_some, List, ◌∷◌, length}
use Rattle.std.specs.FinMap.{len}
use Rattle.std.specs.Option.{option_map}
use Rattle.std.specs.declared.option.Option.{Option}
use Rattle.std.specs.declared.option.Option.TheVariants.{None, Some}
use Rattle.std.proofs.Common.{refl, sym, ap, subst, ◌∙◌, arith, lt-ltb, le-leb, le-ltb}
use Rattle.std.proofs.lemmas.Bool.{cond-true}
use Rattle.guest_space.specs.declared.Extent.{Extent}
use Rattle.guest_space.specs.Regions.{extent_rights}
use Rattle.guest_space.specs.Space.{Space, in_run, memory_of, page_rights, with_run, protected, with_memory}
use Rattle.guest_space.specs.Run.{is_run, first_held, first_missing}
use Rattle.guest_space.specs.Access.{first_fault, with_bytes}
use Rattle.guest_space.proofs.Filling.{page_rights-with_run, page_rights-protected, page_rights-with_memory}
use Rattle.guest_space.proofs.Regions.{in_run_within}
use Rattle.rv_core.specs.Memory.{Memory}
use Rattle.abi_calls.specs.declared.object.Object.TheVariants.{Process}
use Rattle.abi_calls.specs.declared.reply.Reply.TheVariants.{Done, Exists, BadAddress, NoRoom, TooBig}
use Rattle.abi_calls.specs.Objects.{Objects, object_at, running, with_object}
use Rattle.abi_calls.specs.Memory.{with_pages, memory_allocate_row, memory_protect_row, memory_write_row, unless_fault}
use Rattle.bas_items.proofs.NumberMaps.{get-insert-same}
use Rattle.libos_state.specs.declared.cont.Cont.{Cont}
use Rattle.libos_state.specs.declared.state.LibOs.{LibOs}
use Rattle.libos_state.specs.Records.{Visible, memory_of_object}
use Rattle.libos_state.specs.Pending.{file_or_child}
use Rattle.libos_state.specs.Meaning.{child_memory}
use Rattle.libos_state.specs.Named.{Named}
use Rattle.libos_state.specs.Fits.{FitsObjects, HasPages, is_to_name}
use Rattle.libos_state.proofs.Naming.{FitsObjects-changed, Alike, Alike-process}

-- ---- which pages there are

-- A run of further pages.
pub pages_made : (s : Space) (extents : List Extent) (page count rights : ℕ) → HasPages s extents
    → HasPages (with_run s page count rights) (record { page = page; count = count; rights = rights } ∷ extents)
pages_made s extents page count rights has q =
    page_rights-with_run s page count rights q ∙ ap (cond (in_run page count q) (Some rights)) (has q)

-- Other bytes.
pub pages_filled : (s : Space) (m : Memory) (extents : List Extent) → HasPages s extents → HasPages (with_memory s m) extents
pages_filled s m extents has q = page_rights-with_memory s m q ∙ has q

kept_rights : (o : Option ℕ) → option_map {T = ℕ} {U = ℕ} (λ old. old) o ≡ o
kept_rights None = refl
kept_rights (Some x) = refl

changed : (here : Bool) (old new : ℕ) (rest : Option ℕ) → option_map {T = ℕ} {U = ℕ} (λ r. cond here new r) (cond here (Some old) rest) ≡ cond here (Some new) rest
changed true old new rest = refl
changed false old new rest = kept_rights rest

-- The first run gets other rights.
pub pages_protected : (s : Space) (extents : List Extent) (page count old new : ℕ) → HasPages s (record { page = page; count = count; rights = old } ∷ extents)
    → HasPages (protected s page count new) (record { page = page; count = count; rights = new } ∷ extents)
pages_protected s extents page count old new has q =
    page_rights-protected s page count new q
    ∙ ap (option_map {T = ℕ} {U = ℕ} (λ r. cond (in_run page count q) new r)) (has q)
    ∙ changed (in_run page count q) old new (extent_rights extents q)

-- The pages of the first run.
pub has_first : (s : Space) (extents : List Extent) (page count rights : ℕ) → HasPages s (record { page = page; count = count; rights = rights } ∷ extents)
    → (q : ℕ) → page ≤ q → q < page + count → page_rights s q ≡ Some rights
has_first s extents page count rights has q low high = has q ∙ cond-true _ _ _ (in_run_within page count q low high)

-- ---- the calls on the pages of a process that runs

-- A run that ends below the stack is one that a process may have.
pub is_run-below_stack : (page count : ℕ) → 1 ≤ page → 1 ≤ count → page + count ≤ 2 ^ 26 - 16 → is_run page count ≡ true
is_run-below_stack page count above some below =
    let low = lt-ltb 0 page (omega arith) in
    let many = lt-ltb 0 count (omega arith) in
    let high = le-leb (page + count) (2 ^ 26) (omega arith) in
    λ i. low i && many i && high i

module _ (o : Objects) (p : ℕ) (s : Space) (there : object_at o p ≡ Some (Process s None)) where
  pub allocate_row : (page count rights : ℕ) → is_run page count ≡ true → nat_le rights 7 ≡ true → first_held s page count ≡ None → len s + count ≤ 1024 →
      memory_allocate_row o p page count rights (running (object_at o p)) ≡ (Done, with_pages o p (with_run s page count rights))
  allocate_row page count rights run known free few =
      let room : nat_lt 1024 (len s + count) ≡ false = le-ltb 1024 (len s + count) few in
      ap (λ x. memory_allocate_row o p page count rights (running x)) there
      ∙ (λ i. if not (run i && known i) then (BadAddress, o)
      else (if is_some (free i) then (Exists, o)
      else (if room i then (NoRoom, o)
      else (Done, with_pages o p (with_run s page count rights)))))

  pub protect_row : (page count rights : ℕ) → (count == 0) ≡ false → first_missing s page count ≡ None → nat_lt 7 rights ≡ false →
      memory_protect_row o p page count rights (running (object_at o p)) ≡ (Done, with_pages o p (protected s page count rights))
  protect_row page count rights some held known =
      ap (λ x. memory_protect_row o p page count rights (running x)) there
      ∙ (λ i. if some i || (is_some (held i) || known i) then (BadAddress, o) else (Done, with_pages o p (protected s page count rights)))

  pub write_row : (address : ℕ) (bytes : List ℕ) → length bytes ≤ 65536 → first_fault (memory_of s) 2 address (length bytes) ≡ None →
      memory_write_row o p address bytes (running (object_at o p)) ≡ (Done, with_pages o p (with_memory s (with_bytes (memory_of s) address bytes)))
  write_row address bytes few free =
      let short : nat_lt 65536 (length bytes) ≡ false = le-ltb 65536 (length bytes) few in
      ap (λ x. memory_write_row o p address bytes (running x)) there
      ∙ (λ i. if short i then (TooBig, o) else unless_fault o (free i) (Done, with_pages o p (with_memory s (with_bytes (memory_of s) address bytes))))

-- ---- the process that is made gets other pages

pub child_was : (v : Visible) (c : Cont) (s : Space)
    → object_at v.objects (file_or_child c) ≡ Some (Process s None) → child_memory v c ≡ s
child_was v c s there = ap memory_of_object there

pub child_is : (o : Objects) (p : ℕ) (s : Space)
    → memory_of_object (object_at (with_object o p (Process s None)) p) ≡ s
child_is o p s = ap memory_of_object (get-insert-same o.live p (Process s None))

-- What is named is named still.
pub FitsObjects-pages : (os : LibOs) (o : Objects) (p : ℕ) (old new : Space) (names : List Named)
    → object_at o p ≡ Some (Process old None) → FitsObjects os o names None
    → FitsObjects os (with_pages o p new) names None
FitsObjects-pages os o p old new names there fits =
    FitsObjects-changed os o p (Process new None) names None
    (subst (λ x. Alike x (Some (Process new None))) (sym there) (Alike-process old new))
    (sym (ap (is_to_name None) there)) fits
