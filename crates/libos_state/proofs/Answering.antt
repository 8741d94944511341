-- What the stages owe, collected: the answered library OS keeps what it stands for.
use Rattle.std.specs.Prelude.{◌≡◌, ℕ, Bool, true, false, if◌then◌else◌, cond, length}
use Rattle.std.specs.declared.option.Option.{Option}
use Rattle.std.specs.declared.option.Option.TheVariants.{None, Some}
use Rattle.std.proofs.Common.{refl, subst, ◌∙◌}
use Rattle.abi_calls.specs.declared.call.Call.{Call}
use Rattle.abi_calls.specs.declared.reply.Reply.{Reply}
use Rattle.abi_calls.specs.declared.reply.Reply.TheVariants.{Done, Bytes, Count, Length, Exists, BadAddress, NoAccess, NoRoom, TooBig}
use Rattle.abi_calls.specs.Sound.{IsSound}
use Rattle.mono_model.specs.Machine.{register}
use Rattle.mono_model.specs.Calls.{ENOMEM, EINVAL, DUP3, advanced}
use Rattle.mono_model.specs.FileCalls.{READ, sought}
use Rattle.libos_state.specs.declared.cont.Cont.{Cont}
use Rattle.libos_state.specs.declared.cont.Stage.{Stage}
use Rattle.libos_state.specs.declared.cont.Stage.TheVariants.{SetContext, Resume, CloseEvent, ExitThread, CloseHandles, ExitProcess, ReadBuffer, WriteStream, ReadStream, StoreBytes, AppendLength, FileLength, SetFileLength, AllocatePages, FreePages, ProtectPages, CloseStream}
use Rattle.libos_state.specs.declared.state.Boot.TheVariants.{Going, Up}
use Rattle.libos_state.specs.declared.notes.Description.{Description}
use Rattle.libos_state.specs.declared.state.LibOs.{LibOs}
use Rattle.libos_state.specs.Records.{View, visible, description_with, description_behind, pid_with, is_file}
use Rattle.libos_state.specs.declared.step.Change.TheVariants.{Same, MovesPosition, MovesBreak, Closes, Replaces}
use Rattle.libos_state.specs.declared.step.Step.{Step}
use Rattle.libos_state.specs.declared.step.Step.TheVariants.{GivesBreak, Ends}
use Rattle.libos_state.specs.Pending.{asked, asked_by, is_brk, upcall_in, handle, number, argument}
use Rattle.libos_state.specs.Answered.{with_step, with_change, mapping_step, changed_step, answered, answered_at, answered_in, duplicated, closing_change, puts_position, store_change, seek_change, length_change, is_lseek}
use Rattle.libos_state.specs.Descriptors.{without_description, without_stream, with_position, positioned, moved_over}
use Rattle.libos_state.specs.Meaning.{meaning, meant}
use Rattle.libos_state.specs.Fits.{Fits, FitsStage, FitsCont, is_of_start, is_call}
use Rattle.libos_state.specs.Laws.{Keeps, KeepsMeaning}
use Rattle.libos_state.proofs.Holds.{Holds, HoldsQuietly}
use Rattle.libos_state.proofs.Serving.{trap_of}
use Rattle.libos_state.proofs.Starts.{start_of}
use Rattle.libos_state.proofs.Views.{Through}

-- What goes on with a service.
record Goes (os : LibOs) (cont : Option Cont) (w : View) (r : Reply) (w' : View) : Type 0 where
  pub fits : Fits (answered_in os cont r) w'.objects
  pub keeps : Keeps w (meant os (visible w) cont) w' (meaning (answered_in os cont r) (visible w'))
  pub quiet : os.boot ≡ Going → w'.contents ≡ w.contents
  pub up : os.boot ≡ Up → (answered_in os cont r).boot ≡ Up

changed_boot : (os : LibOs) (c : Cont) (refused : ℕ) (r : Reply) → (with_step os (changed_step c refused r)).boot ≡ os.boot
changed_boot os c refused Done = refl
changed_boot os c refused BadAddress = refl
changed_boot os c refused _ = refl

-- A break that is given, and one that moves, leave how far the start is.
given_boot : (os : LibOs) (c : Cont) (brk : Bool) (step : Step) → (with_step os step).boot ≡ os.boot
    → (with_step os (if brk then GivesBreak c else step)).boot ≡ os.boot
given_boot os c true step stays = refl
given_boot os c false step stays = stays

moved_boot : (os : LibOs) (c : Cont) (brk : Bool) (process address : ℕ) (step : Step) → (with_step os step).boot ≡ os.boot
    → (with_step (with_change os (if brk then MovesBreak process address else Same)) (if brk then GivesBreak c else step)).boot ≡ os.boot
moved_boot os c true process address step stays = refl
moved_boot os c false process address step stays = stays

-- What closes a stream leaves how far the start is.
duplicated_boot : (os : LibOs) (p new : ℕ) (x : Option Description) → (duplicated os p new x).boot ≡ os.boot
duplicated_boot os p new None = refl
duplicated_boot os p new (Some d) = refl

gone_boot : (os : LibOs) (x : Option Description) → (without_description os x).boot ≡ os.boot
gone_boot os None = refl
gone_boot os (Some d) = refl

closed_boot : (os : LibOs) (c : Cont) → (with_change os (closing_change c)).boot ≡ os.boot
closed_boot os c =
    let u = upcall_in c.event in
    let gone = gone_boot os (description_with (handle c 0) os.descriptions) in
    let left = without_stream os (handle c 0) in
    elim (is_call u DUP3) as (λ b. (with_change os (cond b (Replaces (handle c 0) u.process (register u.context 10) (register u.context 11)) (Closes (handle c 0)))).boot ≡ os.boot) [
      | true ↦ duplicated_boot left (pid_with left u.process) (register u.context 11) (description_behind left u.process (register u.context 10)) ∙ gone
      | false ↦ gone
    ]

positioned_boot : (os : LibOs) (position : ℕ) (x : Option Description) → (positioned os position x).boot ≡ os.boot
positioned_boot os position None = refl
positioned_boot os position (Some d) = elim (is_file d.kind) as (λ b. (cond b (with_position os d.id position) os).boot ≡ os.boot) [ true ↦ refl | false ↦ refl ]

put_boot : (os : LibOs) (c : Cont) (position : ℕ) → (with_change os (puts_position c position)).boot ≡ os.boot
put_boot os c position = positioned_boot os position (description_behind os (upcall_in c.event).process (argument c 0))

moved_over_boot : (os : LibOs) (count : ℕ) (x : Option Description) → (moved_over os count x).boot ≡ os.boot
moved_over_boot os count None = refl
moved_over_boot os count (Some d) = positioned_boot os (advanced d.position count) (Some d)

stored_boot : (os : LibOs) (c : Cont) → (with_change os (store_change c)).boot ≡ os.boot
stored_boot os c =
    let u = upcall_in c.event in
    elim (is_call u READ) as (λ b. (with_change os (cond b (MovesPosition u.process (argument c 0) (length c.bytes)) Same)).boot ≡ os.boot) [
      | true ↦ moved_over_boot os (length c.bytes) (description_behind os u.process (argument c 0))
      | false ↦ refl
    ]

sought_boot : (os : LibOs) (c : Cont) (at : Option ℕ) → (with_change os (seek_change c at)).boot ≡ os.boot
sought_boot os c None = refl
sought_boot os c (Some at) = put_boot os c at

length_boot : (os : LibOs) (c : Cont) (size : ℕ) → (with_change os (length_change c size)).boot ≡ os.boot
length_boot os c size = elim (is_lseek c) as (λ b. (with_change os (cond b (seek_change c (sought size (argument c 1))) Same)).boot ≡ os.boot) [
  | true ↦ sought_boot os c (sought size (argument c 1))
  | false ↦ refl
]

-- A service on a trap leaves how far the start is.
boot_stays : (os : LibOs) (c : Cont) (stage : Stage) (r : Reply) → is_of_start stage ≡ false
    → (answered_at os c stage r).boot ≡ os.boot
boot_stays os c SetContext Done other = refl
boot_stays os c SetContext _ other = refl
boot_stays os c Resume _ other = refl
boot_stays os c CloseStream Done other = closed_boot os c
boot_stays os c CloseStream _ other = refl
boot_stays os c CloseEvent Done other = refl
boot_stays os c CloseEvent _ other = refl
boot_stays os c ExitThread _ other = refl
boot_stays os c CloseHandles Done other = refl
boot_stays os c CloseHandles _ other = refl
boot_stays os c ExitProcess _ other = refl
boot_stays os c ReadBuffer (Bytes bytes) other = refl
boot_stays os c ReadBuffer BadAddress other = refl
boot_stays os c ReadBuffer NoAccess other = refl
boot_stays os c ReadBuffer _ other = refl
boot_stays os c ReadStream (Bytes bytes) other = refl
boot_stays os c ReadStream _ other = refl
boot_stays os c StoreBytes Done other = stored_boot os c
boot_stays os c StoreBytes BadAddress other = refl
boot_stays os c StoreBytes NoAccess other = refl
boot_stays os c StoreBytes _ other = refl
boot_stays os c AppendLength (Length size) other = refl
boot_stays os c AppendLength _ other = refl
boot_stays os c WriteStream (Count n) other = put_boot os c (advanced (number c 0) n)
boot_stays os c WriteStream TooBig other = refl
boot_stays os c WriteStream _ other = refl
boot_stays os c FileLength (Length size) other = length_boot os c size
boot_stays os c FileLength _ other = refl
boot_stays os c SetFileLength Done other = refl
boot_stays os c SetFileLength TooBig other = refl
boot_stays os c SetFileLength _ other = refl
boot_stays os c AllocatePages Done other = moved_boot os c (is_brk c) _ _ (mapping_step c Done) refl
boot_stays os c AllocatePages Exists other = given_boot os c (is_brk c) (mapping_step c Exists) refl
boot_stays os c AllocatePages NoRoom other = given_boot os c (is_brk c) (mapping_step c NoRoom) refl
boot_stays os c AllocatePages _ other = given_boot os c (is_brk c) Ends refl
boot_stays os c FreePages Done other = moved_boot os c (is_brk c) _ _ (changed_step c EINVAL Done) refl
boot_stays os c FreePages BadAddress other = given_boot os c (is_brk c) (changed_step c EINVAL BadAddress) refl
boot_stays os c FreePages _ other = given_boot os c (is_brk c) Ends refl
boot_stays os c ProtectPages r other = changed_boot os c ENOMEM r
boot_stays os c _ r other = absurd (cc)

-- Each stage gives what it owes.
pub record StagesHold (os : LibOs) : Type 0 where
  pub trap : (c : Cont) (stage : Stage) (w w' : View) (r : Reply) → is_of_start stage ≡ false
      → FitsStage os w.objects c stage → IsSound w.objects → Through w (asked os c stage) r w'
      → Holds os c stage w r w'
  pub start : (c : Cont) (stage : Stage) (w w' : View) (r : Reply) → is_of_start stage ≡ true
      → FitsStage os w.objects c stage → IsSound w.objects → Through w (asked os c stage) r w'
      → HoldsQuietly os c stage w r w'

module _ (os : LibOs) (r : Reply) (hold : StagesHold os) (w w' : View) where
  stage_goes : (c : Cont) → FitsStage os w.objects c c.stage → IsSound w.objects
      → Through w (asked os c c.stage) r w' → Goes os (Some c) w r w'
  stage_goes c fits sound abi = elim (is_of_start c.stage) as (λ b. is_of_start c.stage ≡ b → Goes os (Some c) w r w') [
    | true ↦ λ starts.
        let holds = hold.start c c.stage w w' r starts fits sound abi in
        let going = (start_of os w.objects c c.stage starts fits).going in
        record {
          fits = holds.holds.fits;
          keeps = holds.holds.keeps;
          quiet = λ _. holds.quiet;
          up = λ up. absurd (cc);
        }
    | false ↦ λ other.
        let holds = hold.trap c c.stage w w' r other fits sound abi in
        let up = (trap_of os w.objects c.event c.stage other fits.event).up in
        record {
          fits = holds.fits;
          keeps = holds.keeps;
          quiet = λ going. absurd (cc);
          up = λ was. boot_stays os c c.stage r other ∙ was;
        }
  ] refl

  cont_goes : (cont : Option Cont) (call : Call) → asked_by os cont ≡ Some call
      → FitsCont os w.objects cont → IsSound w.objects → Through w call r w' → Goes os cont w r w'
  cont_goes None call asks fits sound abi = absurd (cc)
  cont_goes (Some c) call asks fits sound abi =
      let same : call ≡ asked os c c.stage = cc in
      stage_goes c fits sound (subst (λ x. Through w x r w') same abi)

pub answered_from : (os : LibOs) (r : Reply) → StagesHold os → KeepsMeaning os r (answered os r)
answered_from os r hold = record {
  kept = λ w w' call asks fits sound abi.
      let goes = cont_goes os r hold w w' os.cont call asks fits sound abi in
      record { fits = goes.fits; keeps = goes.keeps; quiet = goes.quiet; up = goes.up };
}
