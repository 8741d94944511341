-- The definitions computed on a few pages, and instructions in a small memory.
use Rattle.std.proofs.Common.{◌≡◌, ℕ, ◌-◌, List, [], ◌∷◌, map, Option, Some, None, refl, sym, ap, ◌∙◌, slice_index_or, if◌then◌else◌, nat_lt, arith}
use Rattle.std.specs.Ordering.{nat_cmp}
use Rattle.std.specs.FinMap.{empty, get, get-empty}
use Rattle.rv_core.specs.declared.context.Context.{Context}
use Rattle.rv_core.specs.Memory.{Memory, Cell, loaded, stored}
use Rattle.rv_core.specs.Listing.{decoded}
use Rattle.rv_core.specs.Machine.{Goes, Faults, instruction}
use Rattle.guest_space.specs.declared.Extent.{Extent}
use Rattle.guest_space.specs.Space.{Space, Frame, blank, with_run, without_run}
use Rattle.guest_space.specs.Regions.{merged, regions, with_extent, without_pages}
use Rattle.guest_space.proofs.Gets.{get-with_run, get-without_run}
use Rattle.guest_space.proofs.RegionChanges.{regions-unique, regions-with_run, regions-without_run}

-- ---- pages

none : Space
none = empty {R = nat_cmp}

-- pages 16 and 17, to be read and written
two : Space
two = with_run none 16 2 3

page_there : get {R = nat_cmp} two 17 ≡ Some (blank 3)
unfolding two none
page_there = get-with_run none 16 2 3 17

page_not_there : get {R = nat_cmp} two 18 ≡ None
unfolding two none
page_not_there = get-with_run none 16 2 3 18 ∙ get-empty nat_cmp 18

page_freed : get {R = nat_cmp} (without_run two 17 1) 17 ≡ None
page_freed = get-without_run two 17 1 17

-- ---- regions

extent : ℕ → ℕ → ℕ → Extent
extent page count rights = record { page = page; count = count; rights = rights }

no_regions : regions none ≡ []
unfolding none
no_regions = sym (regions-unique none [] (record { maximal = tt; rights = λ q. ap (λ (o : Option Frame). rights_of o) (sym (get-empty nat_cmp q)) }))
  where
    rights_of : Option Frame → Option ℕ
    rights_of None = None
    rights_of (Some frame) = Some frame.rights

one_region : regions two ≡ extent 16 2 3 ∷ []
unfolding two extent merged
one_region = regions-with_run none 16 2 3 (omega arith) ∙ ap (with_extent (extent 16 2 3)) no_regions

-- A page behind them with their rights joins them; one with other rights is a region of its own.
joined_behind : regions (with_run two 18 1 3) ≡ extent 16 3 3 ∷ []
unfolding extent merged
joined_behind = regions-with_run two 18 1 3 (omega arith) ∙ ap (with_extent (extent 18 1 3)) one_region

other_rights : regions (with_run two 18 1 5) ≡ extent 16 2 3 ∷ extent 18 1 5 ∷ []
unfolding extent merged
other_rights = regions-with_run two 18 1 5 (omega arith) ∙ ap (with_extent (extent 18 1 5)) one_region

-- Without the page in the middle, two are left.
two_regions : regions (without_run (with_run two 18 1 3) 17 1) ≡ extent 16 1 3 ∷ extent 18 1 3 ∷ []
unfolding extent merged
two_regions = regions-without_run (with_run two 18 1 3) 17 1 ∙ ap (without_pages 17 1) joined_behind

-- ---- instructions

-- From address 4096 on: lw a0, 0(a1); lbu a0, 0(a1); ld a0, 4(a1); sh a0, 2(a1); blt a0, a1, 8; bltu a0, a1, 8;
-- addw a0, a0, a1; sraiw a0, a0, 4; and from 4128 on the bytes fe ff ff 7f 01.
bytes : List ℕ
bytes =
    0x03 ∷ 0xa5 ∷ 0x05 ∷ 0x00 ∷ 0x03 ∷ 0xc5 ∷ 0x05 ∷ 0x00 ∷ 0x03 ∷ 0xb5 ∷ 0x45 ∷ 0x00 ∷ 0x23 ∷ 0x91 ∷ 0xa5 ∷ 0x00
    ∷ 0x63 ∷ 0x44 ∷ 0xb5 ∷ 0x00 ∷ 0x63 ∷ 0x64 ∷ 0xb5 ∷ 0x00 ∷ 0x3b ∷ 0x05 ∷ 0xb5 ∷ 0x00 ∷ 0x1b ∷ 0x55 ∷ 0x45 ∷ 0x40
    ∷ 0xfe ∷ 0xff ∷ 0xff ∷ 0x7f ∷ 0x01 ∷ []

cell : ℕ → Option Cell
cell byte = Some (record { byte = byte; rights = 7 })

memory : Memory
memory a = if nat_lt a 4096 then None else slice_index_or (map cell bytes) (a - 4096) None

-- The registers a0 and a1; the others are 0.
registers : ℕ → ℕ → ℕ → Context
registers pc a0 a1 = record {
  pc = pc;
  x = 0 ∷ 0 ∷ 0 ∷ 0 ∷ 0 ∷ 0 ∷ 0 ∷ 0 ∷ 0 ∷ a0 ∷ a1 ∷ 0 ∷ 0 ∷ 0 ∷ 0 ∷ 0 ∷ 0 ∷ 0 ∷ 0 ∷ 0 ∷ 0 ∷ 0 ∷ 0 ∷ 0 ∷ 0 ∷ 0 ∷ 0 ∷ 0 ∷ 0 ∷ 0 ∷ 0 ∷ [];
}

load_word : instruction (registers 4096 0 4128) memory ≡ Goes (registers 4100 0x7ffffffe 4128) memory
unfolding decoded memory cell bytes registers
load_word = refl

-- A byte before, the word is negative: 40 fe ff ff.
load_negative : instruction (registers 4096 0 4127) memory ≡ Goes (registers 4100 0xfffffffffffffe40 4127) memory
unfolding decoded memory cell bytes registers
load_negative = refl

load_byte : instruction (registers 4100 0 4128) memory ≡ Goes (registers 4104 0xfe 4128) memory
unfolding decoded memory cell bytes registers
load_byte = refl

-- Eight bytes of which the last aren't there.
load_past : instruction (registers 4104 0 4128) memory ≡ Faults 5 4132
unfolding decoded memory cell bytes registers
load_past = refl

store_half : instruction (registers 4108 0x12345678 4128) memory ≡ Goes (registers 4112 0x12345678 4128) (stored memory 4130 2 0x12345678)
unfolding decoded memory cell bytes registers
store_half = refl

half_stored : loaded (stored memory 4130 2 0x12345678) 4128 4 ≡ Some 0x5678fffe
unfolding memory cell bytes
half_stored = refl

store_past : instruction (registers 4108 0 4131) memory ≡ Faults 7 4133
unfolding decoded memory cell bytes registers
store_past = refl

-- -1 is below 1 as a signed number, and isn't as an unsigned one.
branch_signed : instruction (registers 4112 0xffffffffffffffff 1) memory ≡ Goes (registers 4120 0xffffffffffffffff 1) memory
unfolding decoded memory cell bytes registers
branch_signed = refl

branch_unsigned : instruction (registers 4116 0xffffffffffffffff 1) memory ≡ Goes (registers 4120 0xffffffffffffffff 1) memory
unfolding decoded memory cell bytes registers
branch_unsigned = refl

add_word : instruction (registers 4120 0x7fffffff 1) memory ≡ Goes (registers 4124 0xffffffff80000000 1) memory
unfolding decoded memory cell bytes registers
add_word = refl

shift_word : instruction (registers 4124 0x180000000 0) memory ≡ Goes (registers 4128 0xfffffffff8000000 0) memory
unfolding decoded memory cell bytes registers
shift_word = refl
