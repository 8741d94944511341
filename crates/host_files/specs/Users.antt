-- The users of files: how many handles are open on each.
use Rattle.std.specs.Prelude.{ℕ, ◌+◌, ◌-◌, Bool, if◌then◌else◌, nat_lt, nat_le, List, map, unwrap_or, Vec}
use Rattle.std.specs.Ordering.{nat_cmp}
use Rattle.std.specs.BTreeMap.{BTreeMap}
use Rattle.std.specs.Coded.{Coded, coded_list, coded_ℕ}
use Rattle.std.specs.Cmp.Lexicographic.{slice_cmp}
use Rattle.std.specs.FinMap.{FinMap, code, get, insert, remove, from_entries}

-- How many users each file has, by its name.
abbrev pub Users : Type 0
Users = FinMap (slice_cmp nat_cmp) ℕ

-- They are stored as the list of their entries.
abbrev pub users_code : Coded Users
users_code = code (coded_list coded_ℕ) coded_ℕ

-- How many users a file has; one that has no entry has none.
abbrev pub user_count : Users → List ℕ → ℕ
user_count users name = unwrap_or (get users name) 0

-- The file has a user.
abbrev pub is_used : Users → List ℕ → Bool
is_used users name = nat_lt 0 (user_count users name)

-- The users with one more of the file.
abbrev pub with_user : List ℕ → Users → Users
with_user name users = insert users name (user_count users name + 1)

-- The users with one less of the file. A file without users takes no entry.
abbrev pub without_user : List ℕ → Users → Users
without_user name users =
    if nat_le (user_count users name) 1 then remove users name
    else insert users name (user_count users name - 1)

-- A name and a count as they are stored.
abbrev pub entry_of : {A : Type 0} → Vec ℕ A × ℕ → List ℕ × ℕ
entry_of entry = (entry.0.items, entry.1)

-- The users that a map from names to counts holds.
abbrev pub users_in : {A : Type 0} → BTreeMap (Vec ℕ A) ℕ → Users
users_in {A} tree = from_entries (map entry_of tree.entries)
