-- The program's pages are made, filled and given their rights.
use Rattle.std.specs.Prelude.{◌≡◌, ℕ, ◌+◌, ◌-◌, ◌*◌, ◌≤◌, ◌<◌, Bool, true, false, ◌==◌, if◌then◌else◌, nat_lt, List, [], ◌∷◌, length, take, drop}
use Rattle.std.specs.FinMap.{len}
use Rattle.std.specs.declared.option.Option.TheVariants.{None, Some}
use Rattle.std.proofs.Common.{true≢false, refl, sym, ap, ◌∙◌, subst, arith, ltb-true, ltb-false, le-ltb, ne_eqb, drop-drop, length-drop, length-take}
use Rattle.std.proofs.lemmas.List.{take_all, drop_all, drop_more, length-map}
use Rattle.guest_space.specs.declared.Extent.{Extent}
use Rattle.guest_space.specs.Space.{Space, with_run}
use Rattle.guest_space.proofs.Filling.{filled, filled-append, first_held-none, first_missing-none, first_fault-none}
use Rattle.abi_calls.specs.declared.object.Object.TheVariants.{Process}
use Rattle.abi_calls.specs.declared.reply.Reply.{Reply}
use Rattle.abi_calls.specs.declared.reply.Reply.TheVariants.{Done}
use Rattle.abi_calls.specs.Objects.{Objects, object_at}
use Rattle.abi_calls.specs.Memory.{with_pages}
use Rattle.abi_calls.specs.Sound.{IsSound}
use Rattle.bas_items.proofs.NumberMaps.{get-insert-same}
use Rattle.elf_loader.specs.declared.Run.{Run}
use Rattle.elf_loader.specs.Image.{extent_of, page_count}
use Rattle.mono_model.specs.Starting.{loaded, filled_from, with_rights_of, stacked}
use Rattle.libos_program.specs.Runs.{no_run}
use Rattle.libos_state.specs.declared.cont.Cont.{Cont}
use Rattle.libos_state.specs.declared.cont.Stage.TheVariants.{AllocateRun, WriteRun, ProtectRun, AllocateStack}
use Rattle.libos_state.specs.declared.state.LibOs.{LibOs}
use Rattle.libos_state.specs.Records.{View, visible, with_visible, memory_of_object}
use Rattle.libos_state.specs.Pending.{number, arguments, asked, file_or_child, runs_in, run_in, run_piece, PIECE}
use Rattle.libos_state.specs.Answered.{goes_on, starting}
use Rattle.libos_state.specs.Meaning.{Meaning, settles, begins_with, child_memory, with_runs_behind, meant_at}
use Rattle.libos_state.specs.Named.{kept_names}
use Rattle.libos_state.specs.Fits.{FitsObjects, FitsStage, HasPages, extents_in, extents_before, writable}
use Rattle.libos_state.proofs.Holds.{HoldsQuietly}
use Rattle.libos_state.proofs.Rows.{Stands, quietly_by_row}
use Rattle.libos_state.proofs.Pages.{pages_made, pages_filled, pages_protected, has_first, allocate_row, protect_row, write_row, child_was, child_is, FitsObjects-pages, is_run-below_stack}
use Rattle.libos_state.proofs.Starts.{start_of, start_goes_on}
use Rattle.libos_state.proofs.Pieces.{piece_and_behind}
use Rattle.libos_state.proofs.Programs.{len_of, lies_behind}
use Rattle.libos_state.proofs.Views.{AnswersAs, answer, on_objects, with_objects}

-- What a start leads to behind these pages of its program.
abbrev leads_behind : View → Cont → Space → Meaning
leads_behind w c s = settles (begins_with (visible w) c (stacked s (arguments c)))

-- ---- the pages are made

some_bytes : (count size : ℕ) → 1 ≤ count → size ≡ 4096 * count → 0 < size
some_bytes count size some is = omega arith

pub keeps_allocate_run : (os : LibOs) (c : Cont) (w w' : View) (r : Reply)
    → FitsStage os w.objects c AllocateRun → IsSound w.objects
    → AnswersAs w (asked os c AllocateRun) r w' → HoldsQuietly os c AllocateRun w r w'
keeps_allocate_run os c w w' r fits sound abi =
    let p = file_or_child c in
    let v = visible w in
    let k = number c 0 in
    let run = run_in c in
    let count = page_count run in
    let rest = drop (k + 1) (runs_in c) in
    let lies = lies_behind c fits.kept in
    let s = fits.made.memory in
    let has = fits.made.holds in
    let more : 0 < length run.bytes = some_bytes count (length run.bytes) lies.some lies.whole in
    let none = first_held-none s run.page count (λ q low _. has q ∙ lies.free q low) in
    let room : len s + count ≤ 1024 = let held = len_of s (extents_before c) has lies.rising in let few = lies.room in omega arith in
    let new = with_run s run.page count 3 in
    let o = with_pages w.objects p new in
    let row : answer w (asked os c AllocateRun) r ≡ (Done, with_objects w o) =
    ap (on_objects w) (allocate_row w.objects p s fits.made.child run.page count 3
    (is_run-below_stack run.page count lies.above lies.some lies.below) refl none room) in
    let start : run.page * 4096 + 0 ≡ run.page * 4096 = omega arith in
    let child = get-insert-same w.objects.live p (Process new None) in
    quietly_by_row os c AllocateRun w w' r Done o abi row (record {
      fits = start_goes_on os w.objects c AllocateRun refl fits o WriteRun c.bytes c.handles (k ∷ 0 ∷ []) refl
          (start_of os w.objects c AllocateRun refl fits).current
          (FitsObjects-pages os w.objects p s new (kept_names os c AllocateRun) fits.made.child fits.objects)
          (λ other. absurd (true≢false other)) fits.lists.handles refl
          (record { run = record { program = fits.kept.program; among = fits.kept.among }; more = more })
          (record { memory = new; child = child; holds = pages_made s (extents_before c) run.page count 3 has });
      means = ap (λ m. leads_behind w c (loaded (with_rights_of (filled_from m (run.page * 4096 + 0) run.bytes) run) rest)) (child_is w.objects p new)
          ∙ ap (λ at. leads_behind w c (loaded (with_rights_of (filled_from new at run.bytes) run) rest)) start
          ∙ sym (ap (λ m. leads_behind w c (loaded m (drop k (runs_in c)))) (child_was v c s fits.made.child)
          ∙ ap (λ runs. leads_behind w c (loaded s runs)) (drop_more (runs_in c) k no_run fits.kept.among));
    })

-- ---- a piece of the bytes is written

rest_filled : (s : Space) (at n k : ℕ) (bytes : List ℕ) → let piece = take k (drop n bytes) in
    filled (filled s (at + n) piece) (at + (n + length piece)) (drop (n + length piece) bytes) ≡ filled s (at + n) (drop n bytes)
rest_filled s at n k bytes =
    let piece = take k (drop n bytes) in
    let place : at + (n + length piece) ≡ at + n + length piece = omega arith in
    let behind : drop (n + length piece) bytes ≡ drop (length piece) (drop n bytes) = sym (drop-drop (length piece) n bytes) in
    (λ i. filled (filled s (at + n) piece) (place i) (behind i))
    ∙ filled-append s (at + n) piece (drop (length piece) (drop n bytes))
    ∙ ap (filled s (at + n)) (piece_and_behind (drop n bytes) k)

piece_length : (n k : ℕ) (bytes : List ℕ) → (length (take k (drop n bytes)) ≤ k) × (length (take k (drop n bytes)) ≤ length bytes - n)
piece_length n k bytes = (omega (arith, length-take k (drop n bytes)), omega (arith, length-take k (drop n bytes), length-drop n bytes))

rest_short : (n k : ℕ) (bytes : List ℕ) → length bytes ≤ n + length (take k (drop n bytes)) → length (drop n bytes) ≤ k
rest_short n k bytes whole = omega (arith, length-take k (drop n bytes), length-drop n bytes)

-- The process has its pages, and more of its bytes are written.
module _ (os : LibOs) (c : Cont) (w : View) (fits : FitsStage os w.objects c WriteRun) where
  abbrev start : ℕ
  start = (run_in c).page * 4096

  abbrev place : ℕ
  place = start + number c 1

  abbrev filled_more : Space
  filled_more = filled_from (child_memory (visible w) c) place (run_piece c)

  abbrev with_more : Objects
  with_more = with_pages w.objects (file_or_child c) filled_more

  abbrev extents : List Extent
  extents = writable (extent_of (run_in c)) ∷ extents_before c

  was_there : child_memory (visible w) c ≡ fits.made.memory
  was_there = child_was (visible w) c fits.made.memory fits.made.child

  has_pages : HasPages (child_memory (visible w) c) extents
  has_pages = subst (λ s. HasPages s extents) (sym was_there) fits.made.holds

  has_more : HasPages filled_more extents
  has_more = pages_filled (child_memory (visible w) c) _ extents has_pages

  more_objects : FitsObjects os with_more (kept_names os c WriteRun) None
  more_objects = FitsObjects-pages os w.objects (file_or_child c) fits.made.memory filled_more
      (kept_names os c WriteRun) fits.made.child fits.objects

  more_child : object_at with_more (file_or_child c) ≡ Some (Process filled_more None)
  more_child = get-insert-same w.objects.live (file_or_child c) (Process filled_more None)

  current_run : with_more.lists.current ≡ None
  current_run = (start_of os w.objects c WriteRun refl fits).current

  abbrev loads : Space → Meaning
  loads s = leads_behind w c (with_runs_behind c s)

  -- With bytes left to be written the next piece follows, and else the rights.
  run_stands : (b : Bool) → nat_lt (number c 1 + length (run_piece c)) (length (run_in c).bytes) ≡ b
      → Stands (goes_on os (if b
      then starting c WriteRun c.bytes c.handles (number c 0 ∷ (number c 1 + length (run_piece c)) ∷ [])
      else starting c ProtectRun c.bytes c.handles (number c 0 ∷ [])))
      (with_visible (visible w) with_more) (meant_at os (visible w) c WriteRun)
  run_stands true more =
      let written = number c 1 + length (run_piece c) in
      record {
        fits = start_goes_on os w.objects c WriteRun refl fits with_more WriteRun c.bytes c.handles
            (number c 0 ∷ written ∷ []) refl current_run more_objects (λ other. absurd (cc)) fits.lists.handles
            refl (record {
              run = record { program = fits.kept.run.program; among = fits.kept.run.among };
              more = ltb-true written (length (run_in c).bytes) more;
            }) (record { memory = filled_more; child = more_child; holds = has_more });
        means = ap (λ s. loads (filled_from s (start + written) (drop written (run_in c).bytes)))
            (child_is w.objects (file_or_child c) filled_more)
            ∙ ap loads (rest_filled (child_memory (visible w) c) start (number c 1) PIECE (run_in c).bytes);
      }
  run_stands false done =
      let bytes = (run_in c).bytes in
      let whole = ltb-false (number c 1 + length (run_piece c)) (length bytes) done in
      let last : run_piece c ≡ drop (number c 1) bytes =
      take_all PIECE (drop (number c 1) bytes) (rest_short (number c 1) PIECE bytes whole) in
      record {
        fits = start_goes_on os w.objects c WriteRun refl fits with_more ProtectRun c.bytes c.handles
            (number c 0 ∷ []) refl current_run more_objects (λ other. absurd (cc)) fits.lists.handles refl
            (record { program = fits.kept.run.program; among = fits.kept.run.among })
            (record { memory = filled_more; child = more_child; holds = has_more });
        means = ap loads (child_is w.objects (file_or_child c) filled_more)
            ∙ ap (λ rest. loads (filled_from (child_memory (visible w) c) place rest)) last;
      }

within_run : (page count from piece size : ℕ) → size ≡ 4096 * count → from < size → piece ≤ size - from → page * 4096 + from + piece ≤ (page + count) * 4096
within_run page count from piece size whole more short = omega arith

pub keeps_write_run : (os : LibOs) (c : Cont) (w w' : View) (r : Reply)
    → FitsStage os w.objects c WriteRun → IsSound w.objects
    → AnswersAs w (asked os c WriteRun) r w' → HoldsQuietly os c WriteRun w r w'
keeps_write_run os c w w' r fits sound abi =
    let p = file_or_child c in
    let s = child_memory (visible w) c in
    let run = run_in c in
    let count = page_count run in
    let was = was_there os c w fits in
    let there : object_at w.objects p ≡ Some (Process s None) =
    fits.made.child ∙ ap (λ m. Some (Process m None)) (sym was) in
    let lies = lies_behind c fits.kept.run in
    let piece = piece_length (number c 1) PIECE run.bytes in
    let at = run.page * 4096 + number c 1 in
    let free = first_fault-none s run.page count 3 2 at (length (run_piece c))
    (has_first s (extents_before c) run.page count 3 (has_pages os c w fits)) refl (omega arith)
    (within_run run.page count (number c 1) (length (run_piece c)) (length run.bytes) lies.whole fits.kept.more piece.1) in
    let row : answer w (asked os c WriteRun) r ≡ (Done, with_objects w (with_more os c w fits)) =
    ap (on_objects w) (write_row w.objects p s there at (run_piece c) piece.0 free) in
    quietly_by_row os c WriteRun w w' r Done (with_more os c w fits) abi row
    (run_stands os c w fits (nat_lt (number c 1 + length (run_piece c)) (length run.bytes)) refl)

-- ---- the pages get their rights

module _ (os : LibOs) (c : Cont) (w : View) (fits : FitsStage os w.objects c ProtectRun) where
  abbrev granted : Space
  granted = with_rights_of fits.made.memory (run_in c)

  abbrev with_granted : Objects
  with_granted = with_pages w.objects (file_or_child c) granted

  -- The runs up to this one have their rights.
  has_granted : HasPages granted (take (number c 0 + 1) (extents_in c))
  has_granted q =
      pages_protected fits.made.memory (extents_before c) (run_in c).page (page_count (run_in c)) 3 (run_in c).rights fits.made.holds q
      ∙ sym ((lies_behind c fits.kept).more q)

  granted_objects : FitsObjects os with_granted (kept_names os c ProtectRun) None
  granted_objects = FitsObjects-pages os w.objects (file_or_child c) fits.made.memory granted
      (kept_names os c ProtectRun) fits.made.child fits.objects

  granted_child : object_at with_granted (file_or_child c) ≡ Some (Process granted None)
  granted_child = get-insert-same w.objects.live (file_or_child c) (Process granted None)

  current_granted : with_granted.lists.current ≡ None
  current_granted = (start_of os w.objects c ProtectRun refl fits).current

  -- The child's memory now, and as it was.
  granted_is : (runs : List Run)
      → leads_behind w c (loaded (memory_of_object (object_at with_granted (file_or_child c))) runs)
      ≡ leads_behind w c (loaded (with_rights_of (child_memory (visible w) c) (run_in c)) runs)
  granted_is runs =
      ap (λ m. leads_behind w c (loaded m runs)) (child_is w.objects (file_or_child c) granted)
      ∙ sym (ap (λ m. leads_behind w c (loaded (with_rights_of m (run_in c)) runs)) (child_was (visible w) c fits.made.memory fits.made.child))

  -- With runs left the next one is loaded, and else the stack is made.
  loading_stands : (b : Bool) → nat_lt (number c 0 + 1) (length (runs_in c)) ≡ b
      → Stands (goes_on os (if b then starting c AllocateRun c.bytes c.handles ((number c 0 + 1) ∷ [])
      else starting c AllocateStack c.bytes c.handles []))
      (with_visible (visible w) with_granted) (meant_at os (visible w) c ProtectRun)
  loading_stands true more = record {
    fits = start_goes_on os w.objects c ProtectRun refl fits with_granted AllocateRun c.bytes c.handles
        ((number c 0 + 1) ∷ []) refl current_granted granted_objects (λ other. absurd (cc)) fits.lists.handles refl
        (record { program = fits.kept.program; among = ltb-true (number c 0 + 1) (length (runs_in c)) more })
        (record { memory = granted; child = granted_child; holds = has_granted });
    means = granted_is (drop (number c 0 + 1) (runs_in c));
  }
  loading_stands false last =
      let whole = ltb-false (number c 0 + 1) (length (runs_in c)) last in
      let all : take (number c 0 + 1) (extents_in c) ≡ extents_in c =
      take_all (number c 0 + 1) (extents_in c) (let long = length-map (runs_in c) extent_of in omega arith) in
      let behind : drop (number c 0 + 1) (runs_in c) ≡ [] = drop_all (number c 0 + 1) (runs_in c) whole in
      record {
        fits = start_goes_on os w.objects c ProtectRun refl fits with_granted AllocateStack c.bytes c.handles
            [] refl current_granted granted_objects (λ other. absurd (cc)) fits.lists.handles refl fits.kept.program
            (record { memory = granted; child = granted_child; holds = subst (HasPages granted) all has_granted });
        means = granted_is []
            ∙ ap (λ runs. leads_behind w c (loaded (with_rights_of (child_memory (visible w) c) (run_in c)) runs)) (sym behind);
      }

pub keeps_protect_run : (os : LibOs) (c : Cont) (w w' : View) (r : Reply)
    → FitsStage os w.objects c ProtectRun → IsSound w.objects
    → AnswersAs w (asked os c ProtectRun) r w' → HoldsQuietly os c ProtectRun w r w'
keeps_protect_run os c w w' r fits sound abi =
    let p = file_or_child c in
    let s = fits.made.memory in
    let run = run_in c in
    let count = page_count run in
    let lies = lies_behind c fits.kept in
    let some : (count == 0) ≡ false = ne_eqb count 0 (λ none. let least = lies.some in omega arith) in
    let held = first_missing-none s run.page count 3 (has_first s (extents_before c) run.page count 3 fits.made.holds) in
    let known : nat_lt 7 run.rights ≡ false = le-ltb 7 run.rights (let few = lies.rights in omega arith) in
    let o = with_granted os c w fits in
    let row : answer w (asked os c ProtectRun) r ≡ (Done, with_objects w o) =
    ap (on_objects w) (protect_row w.objects p s fits.made.child run.page count run.rights some held known) in
    quietly_by_row os c ProtectRun w w' r Done o abi row
    (loading_stands os c w fits (nat_lt (number c 0 + 1) (length (runs_in c))) refl)
