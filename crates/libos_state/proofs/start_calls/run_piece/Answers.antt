-- The piece is made of the file's bytes.
use Rattle.std.proofs.Common.{◌≡◌, ◌+◌, ◌-◌, ◌*◌, ◌∙◌, List, ℕ, IfOk, ap, subst, min, slice_index}
use Rattle.guest_space.specs.declared.Extent.{Extent}
use Rattle.elf_loader.specs.Image.{bytes_at, extent_of}
use Rattle.libos_state.specs.declared.cont.Cont.{Cont}
use Rattle.libos_state.specs.Pending as spec
use Rattle.libos_state.specs.Fits.{KeepsPlace}
use Rattle.libos_state.proofs.RunPieces.{run_piece-bytes_at}
use Rattle.libos_state.proofs.start_calls.run_piece.Goals as goal

piece_is : (c : Cont) (run : Extent) (file : List ℕ) (written size : ℕ) → KeepsPlace c → run ≡ extent_of (spec.run_in c) → file ≡ c.bytes → written ≡ spec.number c 1 → size ≡ min (run.count * 4096 - written) 65536
    → bytes_at file (run.page * 4096 + written) size ≡ spec.run_piece c
piece_is c run file written size kept is f w s =
    (λ i. bytes_at (f i) ((is i).page * 4096 + w i) ((s ∙ (λ j. min ((is j).count * 4096 - w j) 65536)) i)) ∙ run_piece-bytes_at c kept

pub returns : goal.returns
returns c =
    let written = c.number_at-written.ensures ∙ ap (λ (xs : List ℕ). slice_index xs 1) c.as_slice.ensures in
    let size = c.min.ensures ∙ ap (λ n. min n 65536) c.saturating_sub-rest.ensures in
    let piece = piece_is c.args.cont.now c.args.run.now c.as_slice-2.result.now c.number_at-written.result c.min.result c.requires.kept c.requires.run c.as_slice-2.ensures written size in
    subst (λ (x : List ℕ). IfOk c.bytes_from.result (λ bytes. bytes ≡ x)) piece c.bytes_from.ensures
