use Rattle.std.proofs.Common.{◌≡◌, ◌<◌, ℕ, List, Result, Ok, Err, Some, None, MatchResult, subst, arith}
use Rattle.std.specs.Option.{IsSome}
use Rattle.elf_loader.specs.declared.ElfError.{ElfError}
use Rattle.elf_loader.specs.declared.ElfError.TheVariants.{Overlap}
use Rattle.elf_loader.specs.Fields.{e_phnum}
use Rattle.elf_loader.specs.Refusal.{lone_refusal, header_refusals}
use Rattle.elf_loader.proofs.Refusals.{header_refusal-none, header_refusal-overlap, header_refusal-lone, header_refusals-all, header_refusals-first}
use Rattle.elf_loader.proofs.file.ElfFile.check_headers.Goals as goal

pub returns-in-Some : goal.returns-in-Some
returns-in-Some c =
    let file = c.args.self.now.bytes.now in
    let i = c.in-Some.i in
    let found = c.in-Some.ensures in
    let within = c.placed-placed.ensures.within in
    let lone = c.placed-placed.ensures.placed in
    header_refusals-first file (Overlap i) (e_phnum file) i (omega (arith, found.0, within))
    (header_refusals-all file i (λ j below. header_refusal-none file j (lone j (omega (arith, below, found.0))) (found.2 j below)))
    (header_refusal-overlap file i (lone i found.0) found.1)

-- the first header that is refused by itself, behind good ones
first_lone : (file : List ℕ) (placed : ℕ) (answer : Result (Unit {0}) ElfError) → placed < e_phnum file → header_refusals file placed ≡ None → IsSome (lone_refusal file placed) → MatchResult answer (λ _. lone_refusal file placed ≡ None) (λ error. lone_refusal file placed ≡ Some error) → MatchResult answer (λ _. header_refusals file (e_phnum file) ≡ None) (λ error. header_refusals file (e_phnum file) ≡ Some error)
first_lone file placed (Ok done) below before refused none = let some = subst (λ o. IsSome o) none refused in cc
first_lone file placed (Err error) below before refused is = header_refusals-first file error (e_phnum file) placed below before (header_refusal-lone file placed error is)

pub returns-then-placed-self : goal.returns-then-placed-self
returns-then-placed-self c =
    let file = c.args.self.now.bytes.now in
    let placed = c.placed-placed.result.count in
    let below : placed < e_phnum file = omega (arith, c.if-placed-self.true, c.args.self.now.counted) in
    first_lone file placed c.check_header.result below
    (header_refusals-all file placed (λ j under. header_refusal-none file j (c.placed-placed.ensures.placed j under) (c.in_default.ensures j under)))
    (c.placed-placed.ensures.refused below)
    c.check_header.ensures

pub returns : goal.returns
returns c =
    let file = c.args.self.now.bytes.now in
    header_refusals-all file (e_phnum file)
    (λ j below.
    let under : j < c.placed-placed.result.count = omega (arith, below, c.if-placed-self.false, c.args.self.now.counted) in
    header_refusal-none file j (c.placed-placed.ensures.placed j under) (c.in_default.ensures j under))
