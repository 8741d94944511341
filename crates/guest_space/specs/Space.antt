-- The memory of a process: pages of 4,096 bytes by number, each with its rights, and the map from
-- addresses to bytes with rights that they make.
use Rattle.std.specs.Prelude.{◌≡◌, ℕ, zero, suc, ◌+◌, ◌*◌, ◌%◌, ◌/◌, ◌^◌, ◌<◌, ◌≤◌, Bool, if◌then◌else◌, ◌&&◌, nat_lt, nat_le, List, [], ◌∷◌, map, length, slice_index, replicate, refl}
use Rattle.std.specs.List.{All}
use Rattle.std.specs.Coded.{Coded, code_by, coded×, coded_ℕ, coded_list}
use Rattle.std.specs.Option.{option_map}
use Rattle.std.specs.Ordering.{nat_cmp}
use Rattle.std.specs.FinMap.{FinMap, get, insert, remove, entries, from_entries}
use Rattle.std.specs.declared.option.Option.{Option}
use Rattle.std.specs.declared.option.Option.TheVariants.{None, Some}
use Rattle.rv_core.specs.Memory.{Memory, Cell}

-- A page: its rights (1 read, 2 write, 4 run) and its bytes.
pub record Frame : Type 0 where
  pub rights : ℕ
  pub bytes : List ℕ

-- A page is stored as its rights and its bytes.
abbrev pub frame_code : Coded Frame
frame_code =
    code_by (ℕ × List ℕ) (coded× coded_ℕ (coded_list coded_ℕ))
    (λ f. (f.rights, f.bytes)) (λ p. record { rights = p.0; bytes = p.1 }) (λ _. refl)

-- The pages by number: page p has the addresses from 4,096 p on.
abbrev pub Space : Type 0
Space = FinMap nat_cmp Frame

abbrev pub cell_in : Option Frame → ℕ → Option Cell
cell_in None at = None
cell_in (Some frame) at = Some (record { byte = slice_index frame.bytes at; rights = frame.rights })

-- The byte at each address, with the rights of its page.
abbrev pub memory_of : Space → Memory
memory_of s = λ a. cell_in (get s (a / 4096)) (a % 4096)

-- The rights of a page, where it is there.
abbrev pub page_rights : Space → ℕ → Option ℕ
page_rights s q = option_map (λ (frame : Frame). frame.rights) (get s q)

-- The pages of a run.
abbrev pub in_run : ℕ → ℕ → ℕ → Bool
in_run page count q = nat_le page q && nat_lt q (page + count)

-- A page of zeros.
abbrev pub blank : ℕ → Frame
blank rights = record { rights = rights; bytes = replicate 4096 0 }

-- The pages with a run of further pages of zeros.
unfoldable pub with_run : Space → ℕ → ℕ → ℕ → Space
with_run s page zero rights = s
with_run s page (suc n) rights = insert (with_run s page n rights) (page + n) (blank rights)

-- The pages without a run.
unfoldable pub without_run : Space → ℕ → ℕ → Space
without_run s page zero = s
without_run s page (suc n) = remove (without_run s page n) (page + n)

-- The same pages, each with what f makes of its number and its frame.
abbrev pub with_frames : (ℕ → Frame → Frame) → Space → Space
with_frames f s = from_entries (map (λ e. (e.0, f e.0 e.1)) (entries s))

-- A page's frame, with other rights if the page is in a run.
abbrev pub frame_in_run : ℕ → ℕ → ℕ → ℕ → Frame → Frame
frame_in_run page count rights q frame =
    record frame { rights = if in_run page count q then rights else frame.rights }

-- The same pages, with other rights in a run.
unfoldable pub protected : Space → ℕ → ℕ → ℕ → Space
protected s page count rights = with_frames (frame_in_run page count rights) s

abbrev pub byte_or_zero : Option Cell → ℕ
byte_or_zero None = 0
byte_or_zero (Some cell) = cell.byte

-- The n bytes of a memory from an address on.
unfoldable pub bytes_from : Memory → ℕ → ℕ → List ℕ
bytes_from m at zero = []
bytes_from m at (suc n) = byte_or_zero (m at) ∷ bytes_from m (at + 1) n

-- A page's frame, with the bytes that a memory has there.
abbrev pub frame_of_memory : Memory → ℕ → Frame → Frame
frame_of_memory m q frame = record frame { bytes = bytes_from m (q * 4096) 4096 }

-- The same pages and rights, with the bytes that a memory has there.
unfoldable pub with_memory : Space → Memory → Space
with_memory s m = with_frames (frame_of_memory m) s

-- A page number that a process may have, with a whole page of bytes and rights that there are.
pub record IsFrame (page : ℕ) (frame : Frame) : Type 0 where
  pub above : 1 ≤ page
  pub below : page < 2 ^ 26
  pub whole : length frame.bytes ≡ 4096
  pub small : All (λ byte. byte < 256) frame.bytes
  pub rights : frame.rights < 8

-- Each page is one that a process may have.
pub record IsSpace (s : Space) : Type 0 where
  pub frames : (page : ℕ) (frame : Frame) → get s page ≡ Some frame → IsFrame page frame
