-- The piece that was written ends where the run does, or holds all that one call moves.
use Rattle.std.specs.Prelude.{◌≡◌, ℕ, ◌+◌, ◌-◌, ◌*◌, List, length, min, slice_index}
use Rattle.std.proofs.Common.{ap, ◌∙◌, arith}
use Rattle.guest_space.specs.declared.Extent.{Extent}
use Rattle.elf_loader.specs.Image.{extent_of}
use Rattle.libos_state.specs.declared.cont.Cont.{Cont}
use Rattle.libos_state.specs.Pending.{number, run_in, run_piece}
use Rattle.libos_state.specs.Answered.{start_writing}
use Rattle.libos_state.specs.Fits.{KeepsRun}
use Rattle.libos_state.proofs.Programs.{lies_behind}
use Rattle.libos_state.proofs.RunPieces.{length-run_piece}
use Rattle.libos_calls.proofs.start_replies.piece_written.Goals as goal

size_is : (c : Cont) (run : Extent) → KeepsRun c → run ≡ extent_of (run_in c) → run.count * 4096 ≡ length (run_in c).bytes
size_is c run kept is =
    let whole = (lies_behind c kept).whole in
    let count = ap (λ (e : Extent). e.count) is in
    omega arith

piece_end : (written from all size rest piece cut : ℕ) → written ≡ from → all ≡ size → rest ≡ all - written → piece ≡ min 65536 rest → cut ≡ min 65536 (size - from) → written + piece ≡ from + cut
piece_end written from all size rest piece cut w a r p k = omega arith

pub written_to-requires-clause-size : goal.written_to-requires-clause-size
written_to-requires-clause-size c = size_is c.args.cont c.in_ok-run.run' c.requires.kept.run c.in_ok-run.ensures.run

pub returns : goal.returns
returns c =
    let cont : Cont = c.args.cont in
    let from : c.number_at-written.result ≡ number cont 1 = c.number_at-written.ensures ∙ ap (λ (xs : List ℕ). slice_index xs 1) c.as_slice.ensures in
    let size = size_is cont c.in_ok-run.run' c.requires.kept.run c.in_ok-run.ensures.run in
    let end = piece_end c.number_at-written.result (number cont 1) (c.in_ok-run.run'.count * 4096) (length (run_in cont).bytes) c.saturating_sub.result c.min-piece.result (length (run_piece cont)) from size c.saturating_sub.ensures c.min-piece.ensures (length-run_piece cont) in
    c.in_ok-written_to.ensures ∙ ap (start_writing cont) end
