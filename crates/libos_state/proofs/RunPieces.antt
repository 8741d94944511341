-- The piece of a run that is written next.
use Rattle.std.specs.Prelude.{◌≡◌, ℕ, ◌+◌, ◌-◌, ◌*◌, ◌≤◌, length, take, drop, min}
use Rattle.std.proofs.Common.{ap, ◌∙◌, arith, length-take, length-drop}
use Rattle.std.proofs.lemmas.List.{take_min}
use Rattle.elf_loader.specs.declared.Run.{Run}
use Rattle.elf_loader.specs.Image.{bytes_at, page_count}
use Rattle.elf_loader.proofs.ImageLaws.{pieces-program_of}
use Rattle.libos_program.specs.Runs.{no_run}
use Rattle.libos_program.proofs.Each.{each_at}
use Rattle.libos_state.specs.declared.cont.Cont.{Cont}
use Rattle.libos_state.specs.Pending.{PIECE, number, runs_in, run_in, run_piece}
use Rattle.libos_state.specs.Fits.{KeepsPlace}
use Rattle.libos_state.proofs.Programs.{lies_behind}

pub length-run_piece : (c : Cont) → length (run_piece c) ≡ min PIECE (length (run_in c).bytes - number c 1)
length-run_piece c = length-take PIECE (drop (number c 1) (run_in c).bytes) ∙ ap (min PIECE) (length-drop (number c 1) (run_in c).bytes)

-- It is made of the file's bytes.
pub run_piece-bytes_at : (c : Cont) → KeepsPlace c →
    bytes_at c.bytes ((run_in c).page * 4096 + number c 1) (min (page_count (run_in c) * 4096 - number c 1) PIECE) ≡ run_piece c
run_piece-bytes_at c kept =
    let run = run_in c in
    let from = number c 1 in
    let size = min (page_count run * 4096 - from) PIECE in
    let lies = lies_behind c kept.run in
    let whole = lies.whole in
    let more = kept.more in
    let place : run.page * 4096 + from ≡ 4096 * run.page + from = omega arith in
    let pieces = each_at (λ (run : Run). (from size : ℕ) → from + size ≤ length run.bytes → bytes_at c.bytes (4096 * run.page + from) size ≡ take size (drop from run.bytes)) (runs_in c) (number c 0) no_run (pieces-program_of c.bytes) kept.run.among in
    let cut : size ≡ min PIECE (length (drop from run.bytes)) = omega (arith, length-drop from run.bytes) in
    ap (λ start. bytes_at c.bytes start size) place
    ∙ pieces from size (omega arith)
    ∙ ap (λ n. take n (drop from run.bytes)) cut
    ∙ take_min PIECE (drop from run.bytes)
