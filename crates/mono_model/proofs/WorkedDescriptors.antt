-- The definitions on descriptors computed on worked examples.
use Rattle.std.specs.Ordering.{nat_cmp}
use Rattle.std.specs.FinMap.{FinMap, get, insert, remove, empty}
use Rattle.std.proofs.Common.{◌≡◌, ℕ, zero, suc, ◌<◌, ◌≤◌, cond, ◌∷◌, ◌++◌, refl, ap, ◌∙◌, arith, replicate, is_some}
use Rattle.std.specs.declared.option.Option.TheVariants.{None, Some}
use Rattle.rv_core.specs.declared.context.Context.{Context}
use Rattle.guest_space.proofs.FirstSome.{first_some-at}
use Rattle.bas_items.proofs.NumberMaps.{get-empty, get-insert-same, get-insert-other, get-remove}
use Rattle.mono_model.specs.Machine.{Mono, Process, Opened, Gone, process_at, register}
use Rattle.mono_model.specs.Descriptors.{descriptors_in, descriptors_at, with_descriptors_in, named_by, without_descriptor, least_free, if_free_descriptor, target_without}
use Rattle.mono_model.specs.Calls.{Caller, error, EINVAL, finished, close_open, close, dup3_known}

-- The descriptors of a process that has the console, as descriptors 0, 1 and 2.
console : FinMap nat_cmp ℕ
console = insert (insert (insert empty 2 3) 1 2) 0 1

held : (fd id : ℕ) → get {R = nat_cmp} console fd ≡ Some id → if_free_descriptor console fd ≡ None
held fd id is = ap (λ x. cond (is_some x) None (Some fd)) is

open0 : get {R = nat_cmp} console 0 ≡ Some 1
unfolding console
open0 = get-insert-same _ 0 1

open1 : get {R = nat_cmp} console 1 ≡ Some 2
unfolding console
open1 = get-insert-other _ 0 1 1 (λ e. absurd (cc)) ∙ get-insert-same _ 1 2

open2 : get {R = nat_cmp} console 2 ≡ Some 3
unfolding console
open2 = get-insert-other _ 0 1 2 (λ e. absurd (cc)) ∙ get-insert-other _ 1 2 2 (λ e. absurd (cc)) ∙ get-insert-same _ 2 3

-- others are closed
closed : (fd : ℕ) → 3 ≤ fd → get {R = nat_cmp} console fd ≡ None
unfolding console
closed fd high =
    get-insert-other _ 0 1 fd (λ e. omega (arith, e, high)) ∙ get-insert-other _ 1 2 fd (λ e. omega (arith, e, high))
    ∙ get-insert-other _ 2 3 fd (λ e. omega (arith, e, high)) ∙ get-empty fd

-- so the least free one is 3, and a number of 64 bits isn't cut to one of 32
least : least_free console ≡ Some 3
least = first_some-at (if_free_descriptor console) 0 32 3 3 (omega arith) (omega arith) (ap (λ x. cond (is_some x) None (Some 3)) (closed 3 (omega arith))) below
  where
    below : (b : ℕ) → 0 ≤ b → b < 3 → if_free_descriptor console b ≡ None
    below zero low high = held 0 1 open0
    below (suc zero) low high = held 1 2 open1
    below (suc (suc zero)) low high = held 2 3 open2
    below (suc (suc (suc b))) low high = absurd (omega arith)

not_cut : get {R = nat_cmp} console 4294967299 ≡ None
not_cut = closed 4294967299 (omega arith)

-- a0 to a2 at a call
given : ℕ → ℕ → ℕ → Context
given a b c = record { pc = 0; x = replicate 9 0 ++ a ∷ b ∷ c ∷ replicate 19 0 }

-- dup3 of a descriptor to itself, and with other flags
to_itself : dup3_known (given 1 1 0) ≡ Some (error EINVAL)
unfolding given
to_itself = refl

other_flags : dup3_known (given 1 2 1) ≡ Some (error EINVAL)
unfolding given
other_flags = refl

close_on_exec : dup3_known (given 1 2 0x80000) ≡ None
unfolding given
close_on_exec = refl

-- what waits for a description that ends waits for what is gone
waited : target_without 3 (Opened 3) ≡ Gone
waited = refl

waited_other : target_without 3 (Opened 4) ≡ Opened 4
waited_other = refl

module _ (m : Mono) (process : Process) (there : process_at m 7 ≡ Some process) (context : Context) (descriptors : process.descriptors ≡ console) where
  abbrev caller : Caller
  caller = record { thread = 5; process = 7; context = context }

  has : descriptors_at m 7 ≡ console
  has = ap descriptors_in there ∙ descriptors

  -- the output is descriptor 1, and names description 2
  output : named_by m 7 1 ≡ Some 2
  output = ap (λ ds. get {R = nat_cmp} ds 1) has ∙ open1

  -- close of 2^32 + 1 is -9
  close_past : register context 10 ≡ 4294967297 → close m caller ≡ finished m caller 18446744073709551607
  close_past is = ap (close_open m caller) (ap (named_by m 7) is ∙ ap (λ ds. get {R = nat_cmp} ds 4294967297) has ∙ closed 4294967297 (omega arith))

  -- a descriptor that was closed names nothing
  closed_one : named_by (without_descriptor m 7 1) 7 1 ≡ None
  closed_one =
      ap (λ x. named_by (with_descriptors_in m 7 (remove (descriptors_in x) 1) x) 7 1) there
      ∙ ap (λ x. get {R = nat_cmp} (descriptors_in x) 1) (get-insert-same m.processes 7 _)
      ∙ get-remove process.descriptors 1 1
