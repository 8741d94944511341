-- From one moment of a service to a later one.
use Rattle.std.proofs.Common.{◌≡◌, ◌≢◌, ◌⊎◌, inl, inr, ℕ, Bool, true, false, if◌then◌else◌, List, [], ◌++◌, refl, sym, ap, subst, ◌∙◌, append_assoc}
use Rattle.std.specs.declared.option.Option.TheVariants.{Some, None}
use Rattle.bas_edge.specs.Files.{Files}
use Rattle.abi_calls.specs.declared.call.Call.{Call}
use Rattle.abi_calls.specs.declared.reply.Reply.{Reply}
use Rattle.abi_calls.specs.World.{Told, Tells}
use Rattle.abi_calls.specs.Abi.{Answers}
use Rattle.abi_calls.specs.Sound.{IsSound}
use Rattle.mono_model.specs.Calls.{advanced}
use Rattle.mono_model.specs.Readable.{Readable}
use Rattle.mono_model.specs.Written.{nothing, and_then}
use Rattle.mono_model.specs.Starting.{Started, Runs, NoProgram, BadProgram}
use Rattle.mono_model.proofs.RunLaws.{and_then-assoc}
use Rattle.libos_state.specs.declared.state.LibOs.{LibOs}
use Rattle.libos_state.specs.declared.state.Boot.TheVariants.{Going}
use Rattle.libos_state.specs.declared.step.Step.{Step}
use Rattle.libos_state.specs.declared.step.Step.TheVariants.{Asks, GivesBreak, Sends, Ends, Stops}
use Rattle.libos_state.specs.declared.step.Change.{Change}
use Rattle.libos_state.specs.declared.step.Change.TheVariants.{Same, PutsPosition, MovesPosition, MovesBreak, Begins, Closes, Replaces}
use Rattle.libos_state.specs.declared.cont.Cont.{Cont}
use Rattle.std.specs.declared.option.Option.{Option}
use Rattle.libos_state.specs.Records.{over_host, description_with, description_behind, is_file, pid_with}
use Rattle.libos_state.specs.declared.notes.Description.{Description}
use Rattle.libos_state.specs.Descriptors.{without_stream, with_position, positioned, moved_over}
use Rattle.libos_state.proofs.StreamClosing.{SameProcesses-without_description}
use Rattle.libos_state.specs.Pending.{pending, asked_by}
use Rattle.libos_state.specs.Answered.{duplicated, answered, answered_in, with_step, with_change, change, next}
use Rattle.libos_state.specs.Fits.{Fits}
use Rattle.libos_state.specs.Laws.{IsRest, files_in, GoesOn, KeepsMeaning}
use Rattle.turn_engine.specs.Inside.{WhereReadable}
use Rattle.turn_engine.specs.Moment.{Moment, meaning_at}
use Rattle.turn_engine.specs.Serves.{Carries, Serves}
use Rattle.turn_engine.specs.Halts.{ServesNoTrap, StartsQuietly}
use Rattle.turn_engine.proofs.Telling.{readable_in, readable-is, readable-stays, told-same, IsLonger-told, IsWritten-nothing, IsWritten-then, where-same, where-then}
use Rattle.turn_engine.proofs.Turns.{answer_turns}

pub IsRest-same : (x : List ℕ) → IsRest x x
IsRest-same x = record { taken = []; is = refl }

pub IsRest-then : (x y z : List ℕ) → IsRest y x → IsRest z y → IsRest z x
IsRest-then x y z first next = record {
  taken = first.taken ++ next.taken;
  is = first.is ∙ ap (λ a. first.taken ++ a) next.is ∙ sym (append_assoc first.taken next.taken z);
}

-- files on the way to the same, twice
pub files_in-then : (s : Started) (x y z : Files) → (y ≡ x) ⊎ (y ≡ files_in s x) → (z ≡ y) ⊎ (z ≡ files_in s y) → (z ≡ x) ⊎ (z ≡ files_in s x)
files_in-then s x y z (inl p) (inl q) = inl (q ∙ p)
files_in-then s x y z (inl p) (inr q) = inr (q ∙ ap (files_in s) p)
files_in-then (Runs m) x y z (inr p) (inl q) = inr (q ∙ p)
files_in-then (Runs m) x y z (inr p) (inr q) = inr q
files_in-then NoProgram x y z (inr p) (inl q) = inl (q ∙ p)
files_in-then NoProgram x y z (inr p) (inr q) = inl (q ∙ p)
files_in-then (BadProgram cause) x y z (inr p) (inl q) = inl (q ∙ p)
files_in-then (BadProgram cause) x y z (inr p) (inr q) = inl (q ∙ p)

pub Carries-same : (a : Moment) (x : Readable) → Carries a a x x
Carries-same a x = record { written = nothing; told = IsWritten-nothing a.told; input = IsRest-same x.input; files = inl refl; same = refl }

pub Carries-then : (a b c : Moment) (x y z : Readable) → Carries a b x y → Carries b c y z → Carries a c x z
Carries-then a b c x y z p q = record {
  written = and_then p.written q.written;
  told = IsWritten-then a.told b.told c.told p.written q.written p.told q.told;
  input = IsRest-then x.input y.input z.input p.input q.input;
  files = files_in-then (meaning_at a x).0 x.files y.files z.files p.files
      (subst (λ s. (z.files ≡ y.files) ⊎ (z.files ≡ files_in s y.files)) (sym (ap (λ m. m.0) p.same)) q.files);
  same = p.same ∙ ap (λ m. (m.0, and_then p.written m.1)) q.same
      ∙ (λ i. ((meaning_at c z).0, sym (and_then-assoc p.written q.written (meaning_at c z).1) i));
}

pub Serves-same : (a : Moment) → Fits a.os a.objects → Serves a a
Serves-same a fits = record { fits = fits; up = λ up. up; turns = refl; means = where-same a.told (Carries a a) (Carries-same a) }

pub Serves-then : (a b c : Moment) → Serves a b → Serves b c → Serves a c
Serves-then a b c first next = record {
  fits = next.fits;
  up = λ up. next.up (first.up up);
  turns = next.turns ∙ first.turns;
  means = where-then a.told b.told c.told (Carries a b) (Carries b c) (Carries a c) (Carries-then a b c) first.means next.means;
}

pub StartsQuietly-same : (a : Moment) → StartsQuietly a a
StartsQuietly-same a = record { quiet = λ start. refl; starts = λ start. start }

pub StartsQuietly-then : (a b c : Moment) → StartsQuietly a b → StartsQuietly b c → StartsQuietly a c
StartsQuietly-then a b c first next = record {
  quiet = λ start. next.quiet (first.starts start) ∙ first.quiet start;
  starts = λ start. next.starts (first.starts start);
}

-- given up with nothing done, and behind a stretch that changed nothing
pub unchanged-same : (os : LibOs) (t : Told) → ServesNoTrap os → t ≡ t
unchanged-same os t start = refl

pub unchanged-then : (a b : Moment) (t : Told) → StartsQuietly a b → (ServesNoTrap b.os → t ≡ b.told) → ServesNoTrap a.os → t ≡ a.told
unchanged-then a b t first next start = next (first.starts start) ∙ first.quiet start

-- a service that has a call to make is in progress
in_progress : (cont : Option Cont) (os : LibOs) (call : Call) → asked_by os cont ≡ Some call → cont ≢ None
in_progress None os call asks none = absurd (cc)
in_progress (Some c) os call asks none = absurd (cc)

pub pending-start : (os : LibOs) (call : Call) → pending os ≡ Some call → ServesNoTrap os → os.boot ≡ Going
pending-start os call asks start = start (in_progress os.cont os call asks)

-- ---- a reply to the pending call

module _ (a b : Moment) (call : Call) (r : Reply) (keeps : KeepsMeaning a.os r b.os) (asks : pending a.os ≡ Some call)
    (fits : Fits a.os a.objects) (sound : IsSound a.objects) (row : Answers a.objects a.told call r b.objects b.told) where
  goes_on : GoesOn a.os (over_host a.objects row.before) b.os (over_host b.objects row.after)
  goes_on = keeps.kept (over_host a.objects row.before) (over_host b.objects row.after) call asks fits sound (record { rules = refl; below = row.abi })

  pub Carries-answered : WhereReadable a.told b.told (Carries a b)
  Carries-answered = record {
    holds = λ x e.
        let y = readable_in row.after in
        let here : Carries a b (readable_in row.before) y = record {
          written = goes_on.keeps.written;
          told = record {
            output = IsLonger-told a.told.output b.told.output row.before.output row.after.output goes_on.keeps.written.output row.was.output row.is.output row.stays.output goes_on.keeps.output;
            errors = IsLonger-told a.told.errors b.told.errors row.before.errors row.after.errors goes_on.keeps.written.errors row.was.errors row.is.errors row.stays.errors goes_on.keeps.errors;
          };
          input = goes_on.keeps.input;
          files = goes_on.keeps.files;
          same = goes_on.keeps.same;
        } in
        (y, readable-stays a.told b.told x row.after e row.stays row.is, subst (λ (z : Readable). Carries a b z y) (sym (readable-is a.told x row.before e row.was)) here);
  }

  pub Serves-answered : Serves a b
  Serves-answered = record {
    fits = goes_on.fits;
    up = goes_on.up;
    turns = answer_turns a.os a.objects b.objects a.told b.told call r asks fits row;
    means = Carries-answered;
  }

  pub told-start : a.os.boot ≡ Going → b.told ≡ a.told
  told-start going =
      let tells = subst (λ c. Tells b.told c) (goes_on.quiet going) row.is in
      told-same a.told b.told row.before row.was tells row.stays

-- Only the end of a start changes how far it is.
duplicated-boot : (os : LibOs) (p fd : ℕ) (x : Option Description) → (duplicated os p fd x).boot ≡ os.boot
duplicated-boot os p fd None = refl
duplicated-boot os p fd (Some d) = refl

gone-boot : (os : LibOs) (handle : ℕ) → (without_stream os handle).boot ≡ os.boot
gone-boot os handle = (SameProcesses-without_description os (description_with handle os.descriptions)).boot

positioned-boot : (os : LibOs) (position : ℕ) (x : Option Description) → (positioned os position x).boot ≡ os.boot
positioned-boot os position None = refl
positioned-boot os position (Some d) = by_kind (is_file d.kind)
  where
    by_kind : (file : Bool) → (if file then with_position os d.id position else os).boot ≡ os.boot
    by_kind true = refl
    by_kind false = refl

moved-boot : (os : LibOs) (count : ℕ) (x : Option Description) → (moved_over os count x).boot ≡ os.boot
moved-boot os count None = refl
moved-boot os count (Some d) = positioned-boot os (advanced d.position count) (Some d)

with_change-boot : (os : LibOs) (change : Change) → (with_change os change).boot ≡ os.boot
with_change-boot os Same = refl
with_change-boot os (Closes handle) = gone-boot os handle
with_change-boot os (Replaces handle process old new) =
    let left = without_stream os handle in
    duplicated-boot left (pid_with left process) new (description_behind left process old) ∙ gone-boot os handle
with_change-boot os (PutsPosition process fd position) = positioned-boot os position (description_behind os process fd)
with_change-boot os (MovesPosition process fd count) = moved-boot os count (description_behind os process fd)
with_change-boot os (MovesBreak process address) = refl
with_change-boot os (Begins process thread descriptions) = refl

with_step-boot : (os : LibOs) (step : Step) → (with_step os step).cont ≢ None → (with_step os step).boot ≡ os.boot
with_step-boot os (Asks c) some = refl
with_step-boot os (GivesBreak c) some = refl
with_step-boot os (Sends c) some = refl
with_step-boot os Ends some = absurd (some refl)
with_step-boot os (Stops boot) some = absurd (some refl)

pub answered-boot : (os : LibOs) (cont : Option Cont) (r : Reply) → (answered_in os cont r).cont ≢ None → (answered_in os cont r).boot ≡ os.boot
answered-boot os None r some = refl
answered-boot os (Some c) r some =
    with_step-boot (with_change os (change c c.stage r)) (next c c.stage r) some ∙ with_change-boot os (change c c.stage r)

pub StartsQuietly-answered : (a b : Moment) (call : Call) (r : Reply) → KeepsMeaning a.os r b.os → b.os ≡ answered a.os r → pending a.os ≡ Some call
    → Fits a.os a.objects → IsSound a.objects → Answers a.objects a.told call r b.objects b.told → StartsQuietly a b
StartsQuietly-answered a b call r keeps value asks fits sound row = record {
  quiet = λ start. told-start a b call r keeps asks fits sound row (pending-start a.os call asks start);
  starts = λ start some.
      ap (λ (os : LibOs). os.boot) value ∙ answered-boot a.os a.os.cont r (λ none. some (ap (λ (os : LibOs). os.cont) value ∙ none)) ∙ pending-start a.os call asks start;
}
