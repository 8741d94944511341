-- Refusals worked out on a few pages.
use Rattle.std.proofs.Common.{◌≡◌, ◌+◌, cond, if◌then◌else◌, nat_le, is_some, Some, None, refl}
use Rattle.std.specs.Option.{option_or, option_map}
use Rattle.std.specs.FinMap.{get, len}
use Rattle.guest_space.specs.Space.{Space, blank, cell_in, memory_of}
use Rattle.guest_space.specs.Access.{fault_of_cell}
use Rattle.guest_space.specs.Run.{if_held}
use Rattle.guest_space.specs.First.{first_some}
use Rattle.guest_memory.specs.declared.error.PageError.TheVariants.{Overlap, Unmapped, Denied, Range, Full}
use Rattle.guest_memory.specs.Refusals.{allocate_refusal, free_refusal, access_refusal, pages_refusal, byte_refusal, error_of}

-- Page 0, rights past 7, and a run past the last page.
page_0 : (s : Space) → allocate_refusal s 0 1 3 ≡ Some Range
page_0 s = refl

no_such_rights : (s : Space) → allocate_refusal s 16 1 8 ≡ Some Range
no_such_rights s = refl

past_the_end : (s : Space) → allocate_refusal s 0x3fffff0 17 3 ≡ Some Range
past_the_end s = refl

no_pages : (s : Space) → free_refusal s 16 0 ≡ Some Range
no_pages s = refl

-- Lengths that aren't those of whole pages.
part_of_a_page : (s : Space) → pages_refusal s 16 4095 ≡ Some Range
part_of_a_page s = refl

-- No bytes are granted wherever they would be.
no_bytes : (s : Space) → access_refusal (memory_of s) 1 0xffffffffffffffff 0 ≡ None
unfolding first_some
no_bytes s = refl

-- The first page of the run that is there.
overlapped : (s : Space) → get s 15 ≡ None → get s 16 ≡ Some (blank 3) → allocate_refusal s 15 9 3 ≡ Some (Overlap 16)
unfolding first_some
overlapped s before here = λ i.
    option_or (option_map Overlap (option_or (cond (is_some (before i)) (Some 15) None) (option_or (cond (is_some (here i)) (Some 16) None) (first_some (if_held s) 17 7))))
    (if nat_le (len s + 9) 1024 then None else Some Full)

-- The first page of the run that isn't there.
unmapped : (s : Space) → get s 17 ≡ Some (blank 3) → get s 18 ≡ None → free_refusal s 17 2 ≡ Some (Unmapped 18)
unfolding first_some
unmapped s here behind = λ i. option_map Unmapped (option_or (cond (is_some (here i)) None (Some 17)) (option_or (cond (is_some (behind i)) None (Some 18)) None))

-- Bytes over the end of a page, of which the next isn't there; bytes that can't be run.
read_past : (s : Space) → get s 16 ≡ Some (blank 3) → get s 17 ≡ None → access_refusal (memory_of s) 1 0x10fff 2 ≡ Some (Unmapped 17)
unfolding first_some
read_past s here behind = λ i.
    option_or (option_map (error_of 16) (fault_of_cell 1 (cell_in (here i) 4095)))
    (option_or (option_map (error_of 17) (fault_of_cell 1 (cell_in (behind i) 0))) None)

run_denied : (s : Space) → get s 16 ≡ Some (blank 3) → access_refusal (memory_of s) 4 0x10000 4 ≡ Some (Denied 16)
unfolding first_some
run_denied s here = λ i.
    option_or (option_map (error_of 16) (fault_of_cell 4 (cell_in (here i) 0))) (first_some (byte_refusal (memory_of s) 4) 0x10001 3)
