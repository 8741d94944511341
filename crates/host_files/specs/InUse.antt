-- A store of which files are in use.
use Rattle.std.specs.Prelude.{◌≡◌, true, List, ℕ, Option, refl}
use Rattle.std.specs.Option.{ForSome}
use Rattle.std.specs.Coded.{Coded, code_by, coded×}
use Rattle.bas_edge.specs.Files.{Files, HasFile}
use Rattle.host_files.specs.Users.{Users, users_code, is_used}

-- A store, and how many users its files have.
pub record InUse (E : Type 0) : Type 0 where
  pub store : E
  pub users : Users

-- It is stored as the pair of its parts.
abbrev pub in_use_code : {E : Type 0} → Coded E → Coded (InUse E)
in_use_code {E} code =
    code_by (E × Users) (coded× code users_code)
    (λ it. (it.store, it.users))
    (λ parts. record { store = parts.0; users = parts.1 })
    (λ _. refl)

-- Each file that has a user is there, where the files are told.
pub record AreThere (told : Option Files) (users : Users) : Type 0 where
  pub there : (name : List ℕ) → is_used users name ≡ true
      → ForSome told (λ files. HasFile files name)
