-- The start of a run: it begins in a world without objects.
use Rattle.std.specs.Prelude.{◌≡◌, ℕ, ◌≤◌, true, cond, nat_le, List, length}
use Rattle.std.specs.List.{list_all}
use Rattle.std.specs.FinMap.{get}
use Rattle.std.specs.Ordering.{nat_cmp}
use Rattle.std.specs.declared.option.Option.TheVariants.{None}
use Rattle.std.proofs.Common.{refl, sym, ap, ◌∙◌, arith, le-leb}
use Rattle.std.proofs.lemmas.Bool.{and_from}
use Rattle.bas_items.proofs.NumberMaps.{get-empty}
use Rattle.turn_sched.specs.declared.settings.Settings.{Settings}
use Rattle.abi_calls.specs.Objects.{Live, Objects}
use Rattle.abi_calls.specs.Processes.{is_acceptable}
use Rattle.abi_calls.specs.Fresh.{IsFreshWorld}
use Rattle.abi_calls.specs.Sound.{IsSound}
use Rattle.abi_calls.proofs.Facts.{AreEmpty-no_objects}
use Rattle.libos_state.specs.Entered.{booting}
use Rattle.libos_state.specs.Fits.{Fits, is_to_name}

-- A program's name of 1 to 80 bytes, up to 15 further arguments of up to 80 bytes each, and
-- settings that a host takes.
pub record CanBoot (program : List ℕ) (args : List (List ℕ)) (settings : Settings) : Type 0 where
  pub named : 1 ≤ length program
  pub short : length program ≤ 80
  pub few : length args ≤ 15
  pub small : list_all (λ arg. nat_le (length arg) 80) args ≡ true
  pub acceptable : is_acceptable settings ≡ true

-- In a world where nothing was done the library OS that begins fits.
pub boot_fits : (program : List ℕ) (args : List (List ℕ)) (settings : Settings) (o : Objects)
    (answered : ℕ) → CanBoot program args settings → IsFreshWorld o answered → IsSound o
    → Fits (booting program args settings) o
boot_fits program args settings o answered can fresh sound =
    let few = can.few in
    record {
      records = record {
        pids = refl;
        tids = refl;
        ids = refl;
        given_pids = refl;
        given_tids = refl;
        processes = refl;
        threads = refl;
        described = refl;
        access = refl;
        append = refl;
        parents = refl;
        queued = refl;
        waits_once = refl;
        few_ids = omega arith;
      };
      objects = record {
        once = λ q. sym (ap (λ (live : Live). cond (is_to_name None (get {R = nat_cmp} live q)) 1 0) fresh.live
            ∙ ap (λ x. cond (is_to_name None x) 1 0) (get-empty q));
        kinds = refl;
        homes = refl;
        codes = refl;
      };
      event = record {
        going = refl;
        next_id = refl;
        processes = refl;
        threads = refl;
        descriptions = refl;
        queue = refl;
        current = (AreEmpty-no_objects o sound fresh.live).current;
        starts = refl;
      };
      lists = record {
        next = λ _. refl;
        names = λ other. absurd (cc);
        bytes = λ _. refl;
        handles = refl;
        later = refl;
        numbers = refl;
      };
      names = record {
        some = omega arith;
        named = can.named;
        short = can.short;
        few = omega arith;
        args = and_from (nat_le (length program) 80) (list_all (λ arg. nat_le (length arg) 80) args)
            (le-leb (length program) 80 can.short) can.small;
      };
      kept = can.acceptable;
      made = fresh.turns;
    }
