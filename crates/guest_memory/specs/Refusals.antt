-- Why a call on the pages of a process is refused, and with which error. The first reason counts.
use Rattle.std.specs.Prelude.{ℕ, ◌+◌, ◌/◌, ◌%◌, ◌==◌, ◌&&◌, if◌then◌else◌, nat_lt, nat_le}
use Rattle.std.specs.Option.{option_map, option_or}
use Rattle.std.specs.FinMap.{len}
use Rattle.std.specs.declared.option.Option.{Option}
use Rattle.std.specs.declared.option.Option.TheVariants.{None, Some}
use Rattle.rv_core.specs.Memory.{Memory}
use Rattle.guest_space.specs.Space.{Space}
use Rattle.guest_space.specs.First.{first_some}
use Rattle.guest_space.specs.Access.{AccessFault, Missing, Forbidden, fault_of_cell}
use Rattle.guest_space.specs.Run.{is_run, first_held, first_missing}
use Rattle.guest_memory.specs.declared.error.PageError.{PageError}
use Rattle.guest_memory.specs.declared.error.PageError.TheVariants.{Overlap, Unmapped, Denied, Range, Full}

-- A run that a process may have, of pages that aren't there, with which it has at most 1,024 pages.
abbrev pub allocate_refusal : Space → ℕ → ℕ → ℕ → Option PageError
allocate_refusal s page count rights =
    if is_run page count && nat_lt rights 8
    then option_or (option_map Overlap (first_held s page count))
    (if nat_le (len s + count) 1024 then None else Some Full)
    else Some Range

-- A run that a process may have, of pages that are there.
abbrev pub free_refusal : Space → ℕ → ℕ → Option PageError
free_refusal s page count =
    if is_run page count then option_map Unmapped (first_missing s page count) else Some Range

-- The same, and rights that there are.
abbrev pub protect_refusal : Space → ℕ → ℕ → ℕ → Option PageError
protect_refusal s page count rights =
    if is_run page count && nat_lt rights 8
    then option_map Unmapped (first_missing s page count)
    else Some Range

abbrev pub error_of : ℕ → AccessFault → PageError
error_of page Missing = Unmapped page
error_of page Forbidden = Denied page

abbrev pub byte_refusal : Memory → ℕ → ℕ → Option PageError
byte_refusal m right a = option_map (error_of (a / 4096)) (fault_of_cell right (m a))

-- Of n bytes from an address on, each is there and has the right: else the page of the first that
-- isn't or hasn't.
abbrev pub access_refusal : Memory → ℕ → ℕ → ℕ → Option PageError
access_refusal m right at n = first_some (byte_refusal m right) at n

-- What an error of an access says of the first byte that can't be accessed.
abbrev pub fault_of_error : PageError → AccessFault
fault_of_error (Denied page) = Forbidden
fault_of_error error = Missing

-- Of the pages that n bytes fill, each is there; other lengths than those of whole pages are refused.
abbrev pub pages_refusal : Space → ℕ → ℕ → Option PageError
pages_refusal s page n =
    if n % 4096 == 0 then option_map Unmapped (first_missing s page (n / 4096)) else Some Range
