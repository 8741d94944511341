-- What the end of a start, and of its run, says of the outcome.
use Rattle.std.proofs.Common.{◌≡◌, ℕ, suc, ◌+◌, ◌%◌, ◌^◌, ◌≤◌, List, true, length, nat_le, arith, refl, sym, ◌∙◌, ap, subst}
use Rattle.std.proofs.lemmas.Bool.{and_parts, leb-true}
use Rattle.std.specs.List.{list_all}
use Rattle.std.specs.declared.option.Option.{Option}
use Rattle.std.specs.declared.option.Option.TheVariants.{None, Some}
use Rattle.abi_calls.specs.declared.host.Crossing.{Crossing}
use Rattle.abi_calls.specs.Objects.{Objects}
use Rattle.abi_calls.specs.World.{Told}
use Rattle.abi_calls.specs.Fresh.{IsFreshWorld}
use Rattle.abi_calls.specs.Sound.{IsSound}
use Rattle.elf_loader.specs.declared.ElfError.{ElfError}
use Rattle.mono_model.specs.Machine.{Mono}
use Rattle.mono_model.specs.Readable.{Readable}
use Rattle.mono_model.specs.Turns.{run_of}
use Rattle.mono_model.specs.Starting.{Started, Runs}
use Rattle.mono_model.specs.Starting as starting
use Rattle.libos_state.specs.declared.state.LibOs.{LibOs}
use Rattle.libos_state.specs.declared.state.Boot.{Boot}
use Rattle.libos_state.specs.declared.state.Boot.TheVariants as boots
use Rattle.libos_state.specs.Meaning.{Meaning, meant, meant_settled}
use Rattle.libos_state.specs.Fits.{Fits, FitsBoot, FitsCont, FitsNone}
use Rattle.libos_state.proofs.Booting.{CanBoot, boot_fits}
use Rattle.turn_engine.specs.Inside.{readable, WhereReadable, IsWritten}
use Rattle.turn_engine.specs.Moment.{Moment, moment, seen_at, machine_at, meaning_at}
use Rattle.turn_engine.specs.Serves.{Serves, IsUp}
use Rattle.turn_engine.specs.Halts.{ServesNoTrap, StartsQuietly}
use Rattle.turn_engine.specs.History.{History, Broken}
use Rattle.turn_engine.proofs.Histories.{history_none, history_then, broken_here, broken_then}
use Rattle.bas_outcomes.specs.declared.outcome.Outcome.{Outcome}
use Rattle.bas_outcomes.specs.declared.outcome.Outcome.TheVariants as outcome
use Rattle.bascule_top.specs.declared.run.RunEnd.{RunEnd}
use Rattle.bascule_top.specs.declared.run.RunEnd.TheVariants as run
use Rattle.bascule_top.specs.Commands.{Launch, TURNS, is_name, are_args, is_launch, start_settings}
use Rattle.bascule_top.specs.Runs.{end_of, EndsIn, EndsRun, IsGivenUpAfter, BreaksRun}
use Rattle.bascule_top.specs.Outcomes.{outcome_by, expected, start_of, IsAfter, StartSays, HasConsole, LeavesObjects, IsStopped, IsGivenUp, Says, opening}
use Rattle.bascule_top.specs.Begun.{Begun}
use Rattle.bascule_top.specs.Histories.{Came}

can_start : (launch : Launch) → is_launch launch ≡ true → CanBoot launch.name launch.args start_settings
can_start launch named =
    let both = and_parts (is_name launch.name) (are_args launch.args) named in
    let parts = and_parts (nat_le 1 (length launch.name)) (nat_le (length launch.name) 80) both.0 in
    let args = and_parts (nat_le (length launch.args) 15) (list_all (λ arg. nat_le (length arg) 80) launch.args) both.1 in
    record {
      named = leb-true 1 (length launch.name) parts.0;
      short = leb-true (length launch.name) 80 parts.1;
      few = leb-true (length launch.args) 15 args.0;
      small = args.1;
      acceptable = refl;
    }

-- the library OS that begins fits a host that was not used
pub Fits-opening : (launch : Launch) (os : LibOs) (o : Objects) (answered : ℕ) → is_launch launch ≡ true → IsFreshWorld o answered → IsSound o → os ≡ opening launch → Fits os o
Fits-opening launch os o answered named fresh sound is =
    subst (λ (s : LibOs). Fits s o) (sym is) (boot_fits launch.name launch.args start_settings o answered (can_start launch named) fresh sound)

same_some : {A : Type 0} (x : Option A) (a b : A) → x ≡ Some a → x ≡ Some b → a ≡ b
same_some x a b p q = cc

-- ---- a start that was served to its end

settled_means : (b : Moment) (x : Readable) → b.os.cont ≡ None → (meaning_at b x).0 ≡ meant_settled b.os (seen_at b x) b.os.boot
settled_means b x settled = ap (λ cont. (meant b.os (seen_at b x) cont).0) settled

begun_from : (launch : Launch) (objects : Objects) (told : Told) (journal : Option (List Crossing)) (answered count : ℕ) (b : Moment)
    → IsFreshWorld objects count → (let a = moment (opening launch) objects told journal answered in Serves a b → StartsQuietly a b → History 0 a b → b.os.cont ≡ None → Begun launch a b)
begun_from launch objects told journal answered count b fresh serves quiet history settled =
    let a : Moment = moment (opening launch) objects told journal answered in
    let same : b.told ≡ a.told = quiet.quiet (λ some. refl) in
    record {
      history = history;
      settled = settled;
      fits = serves.fits;
      told = same;
      unturned = serves.turns ∙ fresh.turns;
      means = λ x e.
          let on = serves.means.holds x e in
          let here : on.0 ≡ x = same_some (readable b.told) on.0 x on.1 (ap readable same ∙ e) in
          ap (λ (m : Meaning). m.0) on.2.same ∙ ap (λ y. (meaning_at b y).0) here ∙ settled_means b x settled;
    }

-- from the library OS that was made
pub Begun-served : (launch : Launch) (os : LibOs) (objects : Objects) (told : Told) (journal : Option (List Crossing)) (answered count : ℕ) (b : Moment)
    → os ≡ opening launch → IsFreshWorld objects count → (let a = moment os objects told journal answered in Serves a b → StartsQuietly a b → History 0 a b → b.os.cont ≡ None
    → Begun launch (moment (opening launch) objects told journal answered) b)
Begun-served launch os objects told journal answered count b is fresh serves quiet history settled =
    let at : LibOs → Moment = λ v. moment v objects told journal answered in
    begun_from launch objects told journal answered count b fresh (subst (λ v. Serves (at v) b) is serves) (subst (λ v. StartsQuietly (at v) b) is quiet)
    (subst (λ v. History 0 (at v) b) is history) settled

boot_fits_as : (b : Moment) (boot : Boot) → b.os.cont ≡ None → b.os.boot ≡ boot → Fits b.os b.objects → FitsBoot b.os b.objects boot
boot_fits_as b boot settled is fits = subst (FitsBoot b.os b.objects) is (subst (FitsCont b.os b.objects) settled fits)

module _ (launch : Launch) (a b : Moment) (begun : Begun launch a b) where
  -- the run has begun
  pub IsUp-begun : b.os.boot ≡ boots.Up → IsUp b.os b.objects
  IsUp-begun up = record { up = up; settled = begun.settled; fits = boot_fits_as b boots.Up begun.settled up begun.fits }

  begins_as : (boot : Boot) → b.os.boot ≡ boot → (x : Readable) → readable a.told ≡ Some x → start_of launch x ≡ meant_settled b.os (seen_at b x) boot
  begins_as boot is x e = begun.means x e ∙ ap (meant_settled b.os (seen_at b x)) is

  told_begun : (x : Readable) → readable a.told ≡ Some x → readable b.told ≡ Some x
  told_begun x e = ap readable begun.told ∙ e

  -- there is no program to run
  none_says : (result : Outcome) (start : Started) → ((x : Readable) → readable a.told ≡ Some x → start_of launch x ≡ start) → result ≡ expected launch start
      → ((x : Readable) → IsAfter start b.objects a.told b.told x) → WhereReadable a.told b.told (StartSays result launch b.objects a.told b.told)
  none_says result start begins is after = record {
    holds = λ x e. (
      x,
      told_begun x e,
      record {
        outcome_is = is ∙ ap (expected launch) (sym (begins x e));
        after = subst (λ s. IsAfter s b.objects a.told b.told x) (sym (begins x e)) (after x);
      },
    );
  }

  console : (boot : Boot) → FitsNone b.os b.objects → HasConsole b.objects
  console boot fits = record { records = b.os; fit = fits; unturned = begun.unturned }

  pub Says-no_program : (result : Outcome) → result ≡ outcome.NoProgram launch.name → b.os.boot ≡ boots.NoProgram → Says result launch a.told b.objects b.told
  Says-no_program result is none = record {
    objects = subst (λ r. LeavesObjects r b.objects) (sym is) (console boots.NoProgram (boot_fits_as b boots.NoProgram begun.settled none begun.fits));
    contents = none_says result starting.NoProgram (begins_as boots.NoProgram none) is (λ x. begun.told);
  }

  pub Says-bad_program : (cause : ElfError) → b.os.boot ≡ boots.BadProgram cause → Says (outcome.BadProgram cause) launch a.told b.objects b.told
  Says-bad_program cause bad = record {
    objects = console (boots.BadProgram cause) (boot_fits_as b (boots.BadProgram cause) begun.settled bad begun.fits);
    contents = none_says (outcome.BadProgram cause) (starting.BadProgram cause) (begins_as (boots.BadProgram cause) bad) refl (λ x. begun.told);
  }

  -- ---- a run

  -- the outcome of a run that ends so
  abbrev pub of_run : RunEnd → Outcome
  of_run (run.Exited code) = outcome.Exited code
  of_run run.Bound = outcome.Bound TURNS
  of_run (run.Stuck turns) = outcome.Stuck turns

  turns_after : (d : Moment) (made : ℕ) → made ≤ TURNS → d.objects.positions.turns ≡ (b.objects.positions.turns + made) % 2 ^ 64 → d.objects.positions.turns ≡ made
  turns_after d made within is = let none = begun.unturned in omega arith

  expected_is : (end : RunEnd) (d : Moment) (ends : EndsRun TURNS end b d) → of_run end ≡ outcome_by (end_of end) d.objects.positions.turns
  expected_is (run.Exited code) d ends = refl
  expected_is run.Bound d ends = ap outcome.Bound (sym (turns_after d ends.made ends.within ends.turns ∙ ends.stops.1))
  expected_is (run.Stuck turns) d ends = ap outcome.Stuck (sym (turns_after d ends.made ends.within ends.turns ∙ ends.stops.1))

  leaves : (end : RunEnd) (d : Moment) (ends : EndsRun TURNS end b d) → LeavesObjects (of_run end) d.objects
  leaves (run.Exited code) d ends = record { records = d.os; fit = ends.up; exit = ends.stops }
  leaves run.Bound d ends =
      (record { records = d.os; fit = ends.up; exit = ends.stops.0 }, refl, turns_after d ends.made ends.within ends.turns ∙ ends.stops.1)
  leaves (run.Stuck turns) d ends =
      (record { records = d.os; fit = ends.up; exit = ends.stops.0 }, sym (turns_after d ends.made ends.within ends.turns ∙ ends.stops.1), ends.stops.2)

  run_says : (end : RunEnd) (d : Moment) (ends : EndsRun TURNS end b d) (x y : Readable) → start_of launch x ≡ Runs (machine_at b x) → EndsIn TURNS (end_of end) b d x y
      → StartSays (of_run end) launch d.objects a.told d.told x y
  run_says end d ends x y begins is = record {
    outcome_is = expected_is end d ends
        ∙ (λ i. outcome_by (sym is.ends i) (sym (ap (λ (m : Mono). m.positions.turns) is.last) i))
        ∙ ap (expected launch) (sym begins);
    after = subst (λ s. IsAfter s d.objects a.told d.told y) (sym begins) (record {
      agrees = record { records = d.os; fit = ends.up; same = sym is.last };
      written = subst (λ t. IsWritten t d.told (run_of TURNS (machine_at b x)).written) begun.told is.written;
    });
  }

  says_run : (end : RunEnd) (d : Moment) → b.os.boot ≡ boots.Up → EndsRun TURNS end b d → Says (of_run end) launch a.told d.objects d.told
  says_run end d up ends = record {
    objects = leaves end d ends;
    contents = record {
      holds = λ x e.
          let on = ends.means.holds x (told_begun x e) in
          (on.0, on.1, run_says end d ends x on.0 (begins_as boots.Up up x e) on.2);
    };
  }

  pub Says-run : (given end : RunEnd) (d : Moment) → given ≡ end → b.os.boot ≡ boots.Up → EndsRun TURNS given b d → Says (of_run end) launch a.told d.objects d.told
  Says-run given end d is up ends = says_run end d up (subst (λ e. EndsRun TURNS e b d) is ends)

  -- ---- histories

  pub Came-no_program : (result : Outcome) → result ≡ outcome.NoProgram launch.name → b.os.boot ≡ boots.NoProgram → Came result a b.objects b.told b.journal b.answered
  Came-no_program result is none =
      subst (λ r. Came r a b.objects b.told b.journal b.answered) (sym is)
      (record { os = b.os; turns = 0; history = begun.history; settled = begun.settled; ends = (none, refl) })

  pub Came-bad_program : (cause : ElfError) → b.os.boot ≡ boots.BadProgram cause → Came (outcome.BadProgram cause) a b.objects b.told b.journal b.answered
  Came-bad_program cause bad = record { os = b.os; turns = 0; history = begun.history; settled = begun.settled; ends = (bad, refl) }

  history_of : (end : RunEnd) (d : Moment) (ends : EndsRun TURNS end b d) → History ends.made a d
  history_of end d ends = subst (λ n. History n a d) (omega arith) (history_then 0 ends.made a b d begun.history ends.history)

  came_by : (end : RunEnd) (d : Moment) (ends : EndsRun TURNS end b d) → Came (of_run end) a d.objects d.told d.journal d.answered
  came_by (run.Exited code) d ends =
      record { os = d.os; turns = ends.made; history = history_of (run.Exited code) d ends; settled = ends.up.settled; ends = (ends.stops, ends.within) }
  came_by run.Bound d ends =
      record { os = d.os; turns = ends.made; history = history_of run.Bound d ends; settled = ends.up.settled; ends = ends.stops }
  came_by (run.Stuck turns) d ends =
      record { os = d.os; turns = ends.made; history = history_of (run.Stuck turns) d ends; settled = ends.up.settled; ends = (ends.stops.0, ends.stops.1) }

  pub Came-run : (given end : RunEnd) (d : Moment) → given ≡ end → EndsRun TURNS given b d → Came (of_run end) a d.objects d.told d.journal d.answered
  Came-run given end d is ends = came_by end d (subst (λ e. EndsRun TURNS e b d) is ends)

  -- ---- given up

  -- behind the start
  pub IsGivenUp-begun : IsGivenUp launch a b.told b.journal b.answered
  IsGivenUp-begun = record {
    turns = 0;
    within = omega arith;
    broken = broken_here 0 a b begun.history;
    means = record { holds = λ x e. (x, told_begun x e, begun.told) };
  }

  -- in its run
  pub IsGivenUp-run : (t : Told) (journal : Option (List Crossing)) (answered : ℕ) → b.os.boot ≡ boots.Up → BreaksRun TURNS b t journal answered → IsGivenUp launch a t journal answered
  IsGivenUp-run t journal answered up breaks = record {
    turns = suc breaks.before;
    within = breaks.within;
    broken = subst (λ n. Broken n a t journal answered) (omega arith) (broken_then 0 (suc breaks.before) a b t journal answered begun.history breaks.broken);
    means = record {
      holds = λ x e.
          let on = breaks.means.holds x (told_begun x e) in (
            on.0,
            on.1,
            subst (λ s. IsStopped s (suc breaks.before) a.told t on.0) (sym (begins_as boots.Up up x e))
                (subst (λ v. IsGivenUpAfter breaks.before (machine_at b x) v t on.0) begun.told on.2),
          );
    };
  }

-- before and while the start is served nothing that is told has changed
pub IsGivenUp-start : (launch : Launch) (a : Moment) (t : Told) (journal : Option (List Crossing)) (answered : ℕ) → t ≡ a.told → Broken 0 a t journal answered → IsGivenUp launch a t journal answered
IsGivenUp-start launch a t journal answered same broken = record {
  turns = 0;
  within = omega arith;
  broken = broken;
  means = record { holds = λ x e. (x, ap readable same ∙ e, same) };
}

-- from the library OS that was made
pub IsGivenUp-boot : (launch : Launch) (os : LibOs) (objects : Objects) (told : Told) (journal : Option (List Crossing)) (answered : ℕ) (t : Told) (j : Option (List Crossing)) (n : ℕ)
    → os ≡ opening launch → (ServesNoTrap os → t ≡ told) → Broken 0 (moment os objects told journal answered) t j n → IsGivenUp launch (moment (opening launch) objects told journal answered) t j n
IsGivenUp-boot launch os objects told journal answered t j n is unchanged broken =
    IsGivenUp-start launch (moment (opening launch) objects told journal answered) t j n (subst (λ v. ServesNoTrap v → t ≡ told) is unchanged (λ some. refl))
    (subst (λ v. Broken 0 (moment v objects told journal answered) t j n) is broken)

pub IsGivenUp-first : (launch : Launch) (a : Moment) → IsGivenUp launch a a.told a.journal a.answered
IsGivenUp-first launch a = IsGivenUp-start launch a a.told a.journal a.answered refl (broken_here 0 a a (history_none a))
