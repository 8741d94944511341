use Rattle.std.proofs.Common.{◌≡◌, ℕ, cond, ap, sym, ◌∙◌, arith, ⊎_elim}
use Rattle.std.specs.Int.{bit_at}
use Rattle.std.proofs.lemmas.Bool.{cond-true, cond-false, cases_Bool}
use Rattle.std.proofs.lemmas.Nat.Bits.{bit_at-zero}
use Rattle.elf_loader.specs.Fields.{e_phnum, program_header}
use Rattle.elf_loader.specs.Segments.{touches, segment_rights, page_rights}
use Rattle.elf_loader.proofs.Below.{union_below-has, union_below-from}
use Rattle.elf_loader.proofs.laws.rights_of_segments.Goals as goal

pub returns : goal.returns
unfolding page_rights
returns c = λ file page right.
    let value : ℕ → ℕ = λ i. cond (touches (program_header file i) page) (segment_rights (program_header file i)) 0 in (
      (λ has.
          let found = union_below-has value right (e_phnum file) has in
          let h = program_header file found.0 in
          ⊎_elim
          (λ touched. (found.0, found.1, touched, ap (λ rights. bit_at rights right) (sym (cond-true (touches h page) (segment_rights h) 0 touched)) ∙ found.2))
          (λ not.
          let none : bit_at (value found.0) right ≡ 0 = ap (λ rights. bit_at rights right) (cond-false (touches h page) (segment_rights h) 0 not) ∙ bit_at-zero right in
          absurd (omega (arith, found.2)))
          (cases_Bool (touches h page))),
      (λ given.
          union_below-from value right (e_phnum file) given.0 given.1
          (ap (λ rights. bit_at rights right) (cond-true (touches (program_header file given.0) page) (segment_rights (program_header file given.0)) 0 given.2) ∙ given.3)),
    )
