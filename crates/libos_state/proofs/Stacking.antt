-- The stack's pages are made, and the argument block is written into them.
use Rattle.std.specs.Prelude.{◌≡◌, ◌+◌, ◌≤◌, [], length}
use Rattle.std.specs.FinMap.{len}
use Rattle.std.specs.declared.option.Option.TheVariants.{None}
use Rattle.std.proofs.Common.{refl, sym, ap, ◌∙◌, arith}
use Rattle.guest_space.specs.Space.{with_run}
use Rattle.guest_space.proofs.Filling.{first_held-none, first_fault-none}
use Rattle.abi_calls.specs.declared.object.Object.TheVariants.{Process}
use Rattle.abi_calls.specs.declared.reply.Reply.{Reply}
use Rattle.abi_calls.specs.declared.reply.Reply.TheVariants.{Done}
use Rattle.abi_calls.specs.Memory.{with_pages}
use Rattle.abi_calls.specs.Sound.{IsSound}
use Rattle.bas_items.proofs.NumberMaps.{get-insert-same}
use Rattle.mono_model.specs.Starting.{STACK_PAGE, STACK_PAGES, stack_pointer, argument_block, stacked, with_block, filled_from}
use Rattle.mono_model.proofs.Sizes.{block_stands}
use Rattle.libos_state.specs.declared.cont.Cont.{Cont}
use Rattle.libos_state.specs.declared.cont.Stage.TheVariants.{AllocateStack, WriteBlock, CreateThread}
use Rattle.libos_state.specs.declared.state.LibOs.{LibOs}
use Rattle.libos_state.specs.Records.{View, visible}
use Rattle.libos_state.specs.Pending.{arguments, asked, file_or_child}
use Rattle.libos_state.specs.Meaning.{settles, begins_with}
use Rattle.libos_state.specs.Named.{kept_names}
use Rattle.libos_state.specs.Fits.{FitsStage, extents_in}
use Rattle.libos_state.proofs.Holds.{HoldsQuietly}
use Rattle.libos_state.proofs.Rows.{quietly_by_row}
use Rattle.libos_state.proofs.Pages.{pages_made, has_first, allocate_row, write_row, child_was, child_is, FitsObjects-pages}
use Rattle.libos_state.proofs.Starts.{start_of, names_of, start_goes_on}
use Rattle.libos_state.proofs.Programs.{len_of, none_from, program_fits}
use Rattle.libos_state.proofs.Views.{AnswersAs, answer, on_objects, with_objects}

pub keeps_allocate_stack : (os : LibOs) (c : Cont) (w w' : View) (r : Reply)
    → FitsStage os w.objects c AllocateStack → IsSound w.objects
    → AnswersAs w (asked os c AllocateStack) r w' → HoldsQuietly os c AllocateStack w r w'
keeps_allocate_stack os c w w' r fits sound abi =
    let p = file_or_child c in
    let v = visible w in
    let s = fits.made.memory in
    let process = program_fits c fits.kept in
    let none = first_held-none s STACK_PAGE STACK_PAGES
    (λ q low _. fits.made.holds q ∙ none_from (extents_in c) process.runs q low) in
    let room : len s + STACK_PAGES ≤ 1024 =
    let held = len_of s (extents_in c) fits.made.holds process.rising in let few = process.few in omega arith in
    let new = with_run s STACK_PAGE STACK_PAGES 3 in
    let o = with_pages w.objects p new in
    let row : answer w (asked os c AllocateStack) r ≡ (Done, with_objects w o) =
    ap (on_objects w) (allocate_row w.objects p s fits.made.child STACK_PAGE STACK_PAGES 3 refl refl none room) in
    quietly_by_row os c AllocateStack w w' r Done o abi row (record {
      fits = start_goes_on os w.objects c AllocateStack refl fits o WriteBlock c.bytes c.handles [] refl
          (start_of os w.objects c AllocateStack refl fits).current
          (FitsObjects-pages os w.objects p s new (kept_names os c AllocateStack) fits.made.child fits.objects)
          (λ other. absurd (cc)) fits.lists.handles refl fits.kept (record {
            memory = new;
            child = get-insert-same w.objects.live p (Process new None);
            holds = pages_made s (extents_in c) STACK_PAGE STACK_PAGES 3 fits.made.holds;
          });
      means = ap (λ m. settles (begins_with v c (with_block m (arguments c)))) (child_is w.objects p new)
          ∙ sym (ap (λ m. settles (begins_with v c (stacked m (arguments c)))) (child_was v c s fits.made.child));
    })

pub keeps_write_block : (os : LibOs) (c : Cont) (w w' : View) (r : Reply)
    → FitsStage os w.objects c WriteBlock → IsSound w.objects
    → AnswersAs w (asked os c WriteBlock) r w' → HoldsQuietly os c WriteBlock w r w'
keeps_write_block os c w w' r fits sound abi =
    let p = file_or_child c in
    let v = visible w in
    let s = fits.made.memory in
    let args = arguments c in
    let names = names_of os w.objects c WriteBlock refl fits in
    let block = block_stands args names.few names.args in
    let free = first_fault-none s STACK_PAGE STACK_PAGES 3 2 (stack_pointer args) (length (argument_block args))
    (has_first s (extents_in c) STACK_PAGE STACK_PAGES 3 fits.made.holds) refl block.above block.below in
    let new = filled_from s (stack_pointer args) (argument_block args) in
    let o = with_pages w.objects p new in
    let row : answer w (asked os c WriteBlock) r ≡ (Done, with_objects w o) =
    ap (on_objects w) (write_row w.objects p s fits.made.child (stack_pointer args) (argument_block args) block.small free) in
    quietly_by_row os c WriteBlock w w' r Done o abi row (record {
      fits = start_goes_on os w.objects c WriteBlock refl fits o CreateThread c.bytes c.handles [] refl
          (start_of os w.objects c WriteBlock refl fits).current
          (FitsObjects-pages os w.objects p s new (kept_names os c WriteBlock) fits.made.child fits.objects)
          (λ other. absurd (cc)) fits.lists.handles refl fits.kept (record {
            memory = new;
            child = get-insert-same w.objects.live p (Process new None);
            holds = tt;
          });
      means = ap (λ m. settles (begins_with v c m)) (child_is w.objects p new)
          ∙ sym (ap (λ m. settles (begins_with v c (with_block m args))) (child_was v c s fits.made.child));
    })
