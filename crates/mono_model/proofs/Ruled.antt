-- A name that leads through lists of rules to a file is substituted by them once.
use Rattle.std.specs.Prelude.{◌≡◌, ℕ, ◌+◌, ◌==◌, nat_lt, Bool, true, false, if◌then◌else◌, List, [], ◌∷◌, length}
use Rattle.std.specs.declared.option.Option.{Option}
use Rattle.std.specs.declared.option.Option.TheVariants.{None, Some}
use Rattle.std.proofs.Common.{refl}
use Rattle.bas_edge.specs.Files.{Files, file_of}
use Rattle.bas_names.specs.declared.Rule.{Rule}
use Rattle.bas_names.specs.Names.{Named, TooLong, Empty, passed, judged, continued, sub, sub_from}
use Rattle.mono_model.specs.Starting.{file_below, file_under}

module _ (lists : List (List Rule)) (files : Files) (number : ℕ) (rest : (name : List ℕ) → file_under lists files name ≡ file_below (file_of files) (sub_from lists (number + 1) name)) where
  by_judgement : (name : List ℕ) (long empty : Bool)
      → file_below (file_under lists files) (if long then TooLong 1 else (if empty then Empty 1 else Named name))
      ≡ file_below (file_of files) (continued (if long then TooLong number else (if empty then Empty number else Named name)) (λ new. sub_from lists (number + 1) new))
  by_judgement name true empty = refl
  by_judgement name false true = refl
  by_judgement name false false = rest name

  by_passage : (x : Option (List ℕ))
      → file_below (file_under lists files) (judged 1 x) ≡ file_below (file_of files) (continued (judged number x) (λ new. sub_from lists (number + 1) new))
  by_passage None = refl
  by_passage (Some name) = by_judgement name (nat_lt 80 (length name)) (length name == 0)

file_under-from : (lists : List (List Rule)) (files : Files) (number : ℕ) (name : List ℕ) → file_under lists files name ≡ file_below (file_of files) (sub_from lists number name)
unfolding sub_from
file_under-from [] files number name = refl
file_under-from (rules ∷ lists) files number name = by_passage lists files number (file_under-from lists files (number + 1)) (passed rules name)

pub file_under-sub : (lists : List (List Rule)) (files : Files) (name : List ℕ) → file_under lists files name ≡ file_below (file_of files) (sub lists name)
file_under-sub lists files name = file_under-from lists files 1 name
