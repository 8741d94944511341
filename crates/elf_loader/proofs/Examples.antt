-- A worked example: a program of 9 instructions and 3 bytes of text that one segment of all rights loads at
-- address 0x10078, and files made from it.
use Rattle.std.proofs.Common.{◌≡◌, ℕ, List, [], ◌∷◌, ◌++◌, take, set, Some, None, refl}
use Rattle.elf_loader.specs.declared.ElfError.TheVariants.{Short, Kind, Table, Interp, Segment}
use Rattle.elf_loader.specs.Fields.{number_at, program_header, e_entry}
use Rattle.elf_loader.specs.Segments.{any_below, union_below, max_below, covers, meets, segment_byte, touches, segment_rights, is_touched, page_rights, end_page, byte_below, byte_of}
use Rattle.elf_loader.specs.Refusal.{file_refusal, is_misplaced, leaves_file, meets_earlier, lone_refusal, header_refusal, header_refusals, pages, program_refusal, refusal}

-- what computes on a file that is written out
unfoldable computed : Unit {0}
unfolding number_at program_header any_below union_below max_below covers meets segment_byte touches segment_rights is_touched page_rights end_page byte_below file_refusal is_misplaced leaves_file meets_earlier lone_refusal header_refusal header_refusals pages program_refusal
computed = tt

hello : List ℕ
hello =
    (127 ∷ 69 ∷ 76 ∷ 70 ∷ 2 ∷ 1 ∷ 1 ∷ 0 ∷ 0 ∷ 0 ∷ 0 ∷ 0 ∷ 0 ∷ 0 ∷ 0 ∷ 0 ∷ []) ++
    (2 ∷ 0 ∷ 243 ∷ 0 ∷ 1 ∷ 0 ∷ 0 ∷ 0 ∷ 120 ∷ 0 ∷ 1 ∷ 0 ∷ 0 ∷ 0 ∷ 0 ∷ 0 ∷ []) ++
    (64 ∷ 0 ∷ 0 ∷ 0 ∷ 0 ∷ 0 ∷ 0 ∷ 0 ∷ 0 ∷ 0 ∷ 0 ∷ 0 ∷ 0 ∷ 0 ∷ 0 ∷ 0 ∷ []) ++
    (0 ∷ 0 ∷ 0 ∷ 0 ∷ 64 ∷ 0 ∷ 56 ∷ 0 ∷ 1 ∷ 0 ∷ 0 ∷ 0 ∷ 0 ∷ 0 ∷ 0 ∷ 0 ∷ []) ++
    (1 ∷ 0 ∷ 0 ∷ 0 ∷ 7 ∷ 0 ∷ 0 ∷ 0 ∷ 120 ∷ 0 ∷ 0 ∷ 0 ∷ 0 ∷ 0 ∷ 0 ∷ 0 ∷ []) ++
    (120 ∷ 0 ∷ 1 ∷ 0 ∷ 0 ∷ 0 ∷ 0 ∷ 0 ∷ 120 ∷ 0 ∷ 1 ∷ 0 ∷ 0 ∷ 0 ∷ 0 ∷ 0 ∷ []) ++
    (39 ∷ 0 ∷ 0 ∷ 0 ∷ 0 ∷ 0 ∷ 0 ∷ 0 ∷ 39 ∷ 0 ∷ 0 ∷ 0 ∷ 0 ∷ 0 ∷ 0 ∷ 0 ∷ []) ++
    (0 ∷ 16 ∷ 0 ∷ 0 ∷ 0 ∷ 0 ∷ 0 ∷ 0 ∷ 19 ∷ 5 ∷ 16 ∷ 0 ∷ 151 ∷ 5 ∷ 0 ∷ 0 ∷ []) ++
    (147 ∷ 133 ∷ 5 ∷ 2 ∷ 19 ∷ 6 ∷ 48 ∷ 0 ∷ 147 ∷ 8 ∷ 0 ∷ 4 ∷ 115 ∷ 0 ∷ 0 ∷ 0 ∷ []) ++
    (19 ∷ 5 ∷ 0 ∷ 0 ∷ 147 ∷ 8 ∷ 208 ∷ 5 ∷ 115 ∷ 0 ∷ 0 ∷ 0 ∷ 104 ∷ 105 ∷ 10 ∷ [])

accepted : refusal hello ≡ None
unfolding hello computed
accepted = refl

entry_is : e_entry hello ≡ 0x10078
unfolding hello computed
entry_is = refl

one_page : pages hello ≡ 16 ∷ []
unfolding hello computed
one_page = refl

all_rights : page_rights hello 16 ≡ 7
unfolding hello computed
all_rights = refl

first_byte : byte_of hello 0x10078 ≡ 0x13
unfolding hello computed
first_byte = refl

last_byte : byte_of hello 0x1009E ≡ 0x0A
unfolding hello computed
last_byte = refl

byte_before : byte_of hello 0x10077 ≡ 0
unfolding hello computed
byte_before = refl

byte_behind : byte_of hello 0x1009F ≡ 0
unfolding hello computed
byte_behind = refl

lacks_last_byte : refusal (take 158 hello) ≡ Some (Segment 0)
unfolding hello computed
lacks_last_byte = refl

lacks_table : refusal (take 119 hello) ≡ Some Table
unfolding hello computed
lacks_table = refl

lacks_header : refusal (take 63 hello) ≡ Some Short
unfolding hello computed
lacks_header = refl

shared_object : refusal (set hello 16 3) ≡ Some Kind
unfolding hello computed
shared_object = refl

interpreted : refusal (set hello 64 3) ≡ Some Interp
unfolding hello computed
interpreted = refl
