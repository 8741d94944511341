-- What was fetched tells the file.
use Rattle.std.proofs.Common.{◌≡◌, ℕ, ◌<◌, Bool, true, false, cond, List, length, nat_lt, refl, sym, ◌∙◌}
use Rattle.std.proofs.lemmas.Bool.{ltb-true}
use Rattle.std.specs.declared.option.Option.{Option}
use Rattle.std.specs.declared.option.Option.TheVariants.{None, Some}
use Rattle.bas_edge.specs.declared.fetched.Fetched.{Fetched}
use Rattle.bas_edge.specs.declared.fetched.Fetched.TheVariants.{Bytes, Large}
use Rattle.bas_edge.specs.Fetched.{fetched_of}
use Rattle.bas_edge.specs.Files.{Files, file_of}
use Rattle.file_commands.specs.Copies.{IsLonger}

is_past : (t : Bool) (limit size n : ℕ) (bytes : List ℕ) → nat_lt limit size ≡ t → Large n ≡ cond t (Large size) (Bytes bytes) → limit < size
is_past true limit size n bytes test e = ltb-true limit size test
is_past false limit size n bytes test e = absurd (cc)

long_file : (limit : ℕ) (name : List ℕ) (files : Files) (n : ℕ) (file : Option (List ℕ)) → file_of files name ≡ file → Large n ≡ fetched_of file limit → IsLonger limit name files
long_file limit name files n None is e = absurd (cc)
long_file limit name files n (Some bytes) is e =
    record { bytes = bytes; there = is; long = is_past (nat_lt limit (length bytes)) limit (length bytes) n bytes refl e }

-- A length past the limit is that of a file.
pub large_is_longer : (limit : ℕ) (name : List ℕ) (files : Files) (fetched : Fetched) (n : ℕ) → fetched ≡ Large n → fetched ≡ fetched_of (file_of files name) limit → IsLonger limit name files
large_is_longer limit name files fetched n large is = long_file limit name files n (file_of files name) refl (sym large ∙ is)
