-- The names of the registers.
use Rattle.std.specs.Prelude.{ℕ, ◌==◌, Bool, ◌&&◌, ◌||◌, List, [], ◌∷◌, Option, find, codes, slice_index_or}
use Rattle.std.specs.List.{range_with_len}
use Rattle.std.specs.Str.{bytes_eq}

-- By number.
abbrev pub x_names : List (List ℕ)
x_names =
    codes "x0" ∷ codes "x1" ∷ codes "x2" ∷ codes "x3" ∷ codes "x4" ∷ codes "x5" ∷ codes "x6" ∷
    codes "x7" ∷ codes "x8" ∷ codes "x9" ∷ codes "x10" ∷ codes "x11" ∷ codes "x12" ∷ codes "x13" ∷
    codes "x14" ∷ codes "x15" ∷ codes "x16" ∷ codes "x17" ∷ codes "x18" ∷ codes "x19" ∷
    codes "x20" ∷ codes "x21" ∷ codes "x22" ∷ codes "x23" ∷ codes "x24" ∷ codes "x25" ∷
    codes "x26" ∷ codes "x27" ∷
    codes "x28" ∷ codes "x29" ∷ codes "x30" ∷ codes "x31" ∷ []

-- The usual names, by number.
abbrev pub usual_names : List (List ℕ)
usual_names =
    codes "zero" ∷ codes "ra" ∷ codes "sp" ∷ codes "gp" ∷ codes "tp" ∷ codes "t0" ∷ codes "t1" ∷
    codes "t2" ∷ codes "s0" ∷ codes "s1" ∷ codes "a0" ∷ codes "a1" ∷ codes "a2" ∷ codes "a3" ∷
    codes "a4" ∷ codes "a5" ∷ codes "a6" ∷ codes "a7" ∷ codes "s2" ∷ codes "s3" ∷ codes "s4" ∷
    codes "s5" ∷ codes "s6" ∷ codes "s7" ∷ codes "s8" ∷ codes "s9" ∷ codes "s10" ∷ codes "s11" ∷
    codes "t3" ∷ codes "t4" ∷ codes "t5" ∷ codes "t6" ∷ []

-- Register 8 has a second usual name.
abbrev pub names_register : List ℕ → ℕ → Bool
names_register text n =
    bytes_eq text (slice_index_or x_names n [])
    || (bytes_eq text (slice_index_or usual_names n []) || (n == 8 && bytes_eq text (codes "fp")))

-- The number of the register that a text names.
unfoldable pub register_of : List ℕ → Option ℕ
register_of text = find (names_register text) (range_with_len 0 32)
