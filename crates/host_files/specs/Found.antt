-- What a store answers of a file that has a user, as far as the files are told.
use Rattle.std.specs.Prelude.{◌≡◌, ℕ, ◌≤◌, List, length, take, drop, Option, IfSome}
use Rattle.bas_edge.specs.Files.{Files, file_bytes}

-- So long is the file, where the files are told.
pub record HasLength (told : Option Files) (name : List ℕ) (size : ℕ) : Type 0 where
  pub is : IfSome told (λ files. size ≡ length (file_bytes files name))

-- At most so many bytes, those of the file from the offset on where the files are told.
pub record ReadsFile (told : Option Files) (name : List ℕ) (offset count : ℕ)
    (bytes : List ℕ) : Type 0 where
  pub within : length bytes ≤ count
  pub read : IfSome told (λ files. bytes ≡ take count (drop offset (file_bytes files name)))
