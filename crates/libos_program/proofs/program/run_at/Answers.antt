-- The layout has the runs of the program.
use Rattle.std.proofs.Common.{◌≡◌, ◌^◌, ◌<◌, ◌≤◌, length, slice_index_or, ap, sym, subst, ◌∙◌, arith}
use Rattle.guest_space.specs.declared.Extent.{Extent}
use Rattle.guest_space.specs.Regions.{extent_end}
use Rattle.elf_loader.specs.Image.{program_of}
use Rattle.libos_program.proofs.Layouts.{length-runs_in_layout, run_in_layout, run_in_layout-small}
use Rattle.libos_program.proofs.program.run_at.Goals as goal

abbrev none : Extent
none = record { page = 0; count = 0; rights = 0 }

within : (c : goal.After-as_slice) → c.args.number < length c.as_slice.result.now
within c =
    let long : length c.as_slice.result.now ≡ length (program_of c.args.file.now).runs =
    ap length c.as_slice.ensures ∙ length-runs_in_layout c.args.file.now c.in_ok-layout.layout c.in_ok-layout.ensures in
    subst (λ n. c.args.number < n) (sym long) c.requires.among

pub offset_bounds-as_slice-number : goal.offset_bounds-as_slice-number
offset_bounds-as_slice-number c = let low = within c in let room = c.as_slice.type_inv.1 in omega arith

pub bounds-as_slice-number : goal.bounds-as_slice-number
bounds-as_slice-number c = within c

pub returns-clause-run : goal.returns-clause-run
returns-clause-run c =
    ap (λ runs. slice_index_or runs c.args.number none) c.as_slice.ensures
    ∙ run_in_layout c.args.file.now c.in_ok-layout.layout c.in_ok-layout.ensures c.args.number none c.requires.among

pub returns-clause-small : goal.returns-clause-small
returns-clause-small c =
    subst (λ runs. extent_end (slice_index_or runs c.args.number none) ≤ 2 ^ 26) (sym c.as_slice.ensures)
    (run_in_layout-small c.args.file.now c.in_ok-layout.layout c.in_ok-layout.ensures c.args.number none c.requires.among c.requires.taken)
