use Rattle.std.proofs.Common.{◌/◌, ◌%◌, sym, ap, ◌∙◌, cond, Some, Option}
use Rattle.std.proofs.lemmas.Bool.{eq-eqb}
use Rattle.std.specs.Option.{option_map}
use Rattle.guest_space.specs.Run.{first_missing}
use Rattle.guest_memory.specs.declared.error.PageError.{PageError}
use Rattle.guest_memory.specs.declared.error.PageError.TheVariants.{Unmapped, Range}
use Rattle.guest_memory.specs.Pages.{space_of}
use Rattle.guest_memory.proofs.Order.{IsSpace-space_of}
use Rattle.guest_memory.proofs.Accesses.{first_missing-past_end, AreThere-pages}
use Rattle.guest_memory.proofs.run.refused_pages.Goals as goal

pub returns-then-page-ge-PAGE_END-clause-cause : goal.returns-then-page-ge-PAGE_END-clause-cause
returns-then-page-ge-PAGE_END-clause-cause c =
    let s = space_of c.args.pages.now in
    let first = first_missing-past_end s c.args.page (c.args.len / 4096) (IsSpace-space_of 0 c.args.pages.now c.requires) c.if-count-gt0.true c.if-page-ge-PAGE_END.true in
    sym (ap (λ b. cond {A = Option PageError} b (option_map Unmapped (first_missing s c.args.page (c.args.len / 4096))) (Some Range)) (eq-eqb (c.args.len % 4096) 0 c.if-len-ne0.false)
    ∙ ap (option_map Unmapped) first)

pub returns-in-None-clause-there : goal.returns-in-None-clause-there
returns-in-None-clause-there c =
    λ some. AreThere-pages (space_of c.args.pages.now) c.args.page c.args.len (IsSpace-space_of 0 c.args.pages.now c.requires) some c.if-len-ne0.false (sym c.in-None.ensures)
