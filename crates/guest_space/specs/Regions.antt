-- The regions of a process: its adjacent pages of equal rights, each run of them as long as it can
-- be.
use Rattle.std.specs.Prelude.{◌≡◌, ◌≢◌, ℕ, zero, suc, ◌+◌, ◌-◌, ◌*◌, ◌^◌, ◌<◌, ◌≤◌, ◌==◌, ◌&&◌, if◌then◌else◌, nat_lt, min, max, List, [], ◌∷◌, ◌++◌, map, length, slice_range}
use Rattle.std.specs.List.{All}
use Rattle.std.specs.Ordering.{nat_cmp}
use Rattle.std.specs.FinMap.{empty, insert, entries}
use Rattle.std.specs.declared.option.Option.{Option}
use Rattle.std.specs.declared.option.Option.TheVariants.{None, Some}
use Rattle.guest_space.specs.declared.Extent.{Extent}
use Rattle.guest_space.specs.Space.{Frame, Space, in_run, page_rights, memory_of, bytes_from}

-- The page after the last of an extent.
abbrev pub extent_end : Extent → ℕ
extent_end e = e.page + e.count

-- An extent before others: it ends where the next begins or earlier, and if there, the rights
-- change.
abbrev pub IsBefore : Extent → List Extent → Type 0
IsBefore e [] = Unit {0}
IsBefore e (next ∷ extents) =
    (extent_end e ≤ next.page) × (extent_end e ≡ next.page → e.rights ≢ next.rights)

-- The extents have pages, rise, and are as long as can be: one that begins where another ends has
-- other rights.
abbrev pub AreMaximal : List Extent → Type 0
AreMaximal [] = Unit {0}
AreMaximal (e ∷ extents) = (1 ≤ e.count) × IsBefore e extents × AreMaximal extents

-- The rights that extents give a page: those of the first that has it.
abbrev pub extent_rights : List Extent → ℕ → Option ℕ
extent_rights [] q = None
extent_rights (e ∷ extents) q =
    if in_run e.page e.count q then Some e.rights else extent_rights extents q

-- An extent before others, as one with the next where that begins at its end and has its rights.
abbrev pub joined : Extent → List Extent → List Extent
joined e [] = e ∷ []
joined e (next ∷ extents) =
    if extent_end e == next.page && e.rights == next.rights
    then record { page = e.page; count = e.count + next.count; rights = e.rights } ∷ extents
    else e ∷ next ∷ extents

-- Rising extents, where each is joined with those that continue it.
unfoldable pub merged : List Extent → List Extent
merged [] = []
merged (e ∷ extents) = joined e (merged extents)

-- A page as an extent.
abbrev pub page_extent : (ℕ × Frame) → Extent
page_extent e = record { page = e.0; count = 1; rights = (e.1).rights }

-- The regions of a space, rising.
unfoldable pub regions : Space → List Extent
regions s = merged (map page_extent (entries s))

-- Extents are the regions of a space: maximal, with just its pages, and each with its rights.
pub record AreRegions (s : Space) (extents : List Extent) : Type 0 where
  pub maximal : AreMaximal extents
  pub rights : (q : ℕ) → extent_rights extents q ≡ page_rights s q

-- An extent that the pages of a process can be.
pub record IsExtentOfProcess (e : Extent) : Type 0 where
  pub above : 1 ≤ e.page
  pub below : extent_end e ≤ 2 ^ 26
  pub rights : e.rights < 8

-- ---- how regions change

-- The pages of extents before a page.
abbrev pub pages_before : ℕ → List Extent → List Extent
pages_before page [] = []
pages_before page (e ∷ extents) =
    if nat_lt e.page page
    then record e { count = min e.count (page - e.page) } ∷ pages_before page extents
    else pages_before page extents

-- The pages of extents from a page on.
abbrev pub pages_from : ℕ → List Extent → List Extent
pages_from page [] = []
pages_from page (e ∷ extents) =
    if nat_lt page (extent_end e)
    then record e { page = max page e.page; count = extent_end e - max page e.page }
    ∷ pages_from page extents
    else pages_from page extents

-- The regions with an extent in place of what was there.
abbrev pub with_extent : Extent → List Extent → List Extent
with_extent e extents =
    merged (pages_before e.page extents ++ (e ∷ pages_from (extent_end e) extents))

-- The regions without so many pages, from one on.
abbrev pub without_pages : ℕ → ℕ → List Extent → List Extent
without_pages page count extents =
    merged (pages_before page extents ++ pages_from (page + count) extents)

-- ---- regions with their bytes

abbrev pub region_bytes : Space → Extent → List ℕ
region_bytes s e = bytes_from (memory_of s) (e.page * 4096) (e.count * 4096)

-- The regions of a space, each with its bytes.
abbrev pub regions_with_bytes : Space → List (Extent × List ℕ)
regions_with_bytes s = map (λ e. (e, region_bytes s e)) (regions s)

-- The pages of a space with those of an extent, which have its bytes one after another.
unfoldable pub with_pages : Space → ℕ → ℕ → ℕ → List ℕ → Space
with_pages s page zero rights bytes = s
with_pages s page (suc n) rights bytes =
    insert (with_pages s page n rights bytes) (page + n)
    (record { rights = rights; bytes = slice_range bytes (n * 4096) (n * 4096 + 4096) })

-- The space of regions with their bytes.
unfoldable pub space_from : List (Extent × List ℕ) → Space
space_from [] = empty {R = nat_cmp}
space_from (r ∷ regions) = with_pages (space_from regions) (r.0).page (r.0).count (r.0).rights r.1

-- Regions with bytes that a space can have.
pub record AreRegionsWithBytes (regions : List (Extent × List ℕ)) : Type 0 where
  pub maximal : AreMaximal (map (λ r. r.0) regions)
  pub whole : All (λ (r : Extent × List ℕ). length r.1 ≡ (r.0).count * 4096) regions
