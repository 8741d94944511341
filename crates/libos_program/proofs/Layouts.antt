-- The layout of a program's file, and the program.
use Rattle.std.specs.Prelude.{◌≡◌, ℕ, ◌^◌, ◌≤◌, ◌<◌, List, length}
use Rattle.std.specs.declared.option.Option.TheVariants.{None}
use Rattle.std.proofs.Common.{get_or, ap, sym, subst, ◌∙◌, arith}
use Rattle.std.proofs.lemmas.List.{length-map, get_or-map}
use Rattle.guest_space.specs.declared.Extent.{Extent}
use Rattle.guest_space.specs.Regions.{extent_end}
use Rattle.elf_loader.specs.declared.runs.Layout.{Layout}
use Rattle.elf_loader.specs.Refusal.{refusal}
use Rattle.elf_loader.specs.Image.{FitsProcess, IsRunOfProcess, extent_of, layout_of, program_of, without_bytes}
use Rattle.elf_loader.proofs.ImageLaws.{FitsProcess-accepted, without_bytes-program_of}
use Rattle.libos_program.specs.Runs.{no_run}
use Rattle.libos_program.proofs.Each.{each_at}

module _ (file : List ℕ) (layout : Layout) (is : layout ≡ layout_of file) where
  same : layout ≡ without_bytes (program_of file)
  same = is ∙ sym (without_bytes-program_of file)

  pub entry_in_layout : layout.entry ≡ (program_of file).entry
  entry_in_layout = ap (λ (l : Layout). l.entry) same

  pub end_in_layout : layout.end ≡ (program_of file).end
  end_in_layout = ap (λ (l : Layout). l.end) same

  pub length-runs_in_layout : length layout.runs ≡ length (program_of file).runs
  length-runs_in_layout = ap (λ (l : Layout). length l.runs) same ∙ length-map (program_of file).runs extent_of

  module _ (n : ℕ) (d : Extent) (within : n < length (program_of file).runs) where
    pub run_in_layout : get_or layout.runs n d ≡ extent_of (get_or (program_of file).runs n no_run)
    run_in_layout = ap (λ (l : Layout). get_or l.runs n d) same ∙ get_or-map extent_of (program_of file).runs n no_run d within

    pub run_in_layout-small : refusal file ≡ None → extent_end (get_or layout.runs n d) ≤ 2 ^ 26
    run_in_layout-small taken =
        let fits : FitsProcess layout = subst FitsProcess (sym is) (FitsProcess-accepted file taken) in
        let long = length-runs_in_layout in
        let run = each_at IsRunOfProcess layout.runs n d fits.runs (omega arith) in
        let below = run.below in
        omega arith
