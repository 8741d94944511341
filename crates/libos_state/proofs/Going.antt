-- What the records and the objects fit doesn't hang on the service in progress.
use Rattle.std.specs.Prelude.{ℕ, List}
use Rattle.std.specs.declared.option.Option.{Option}
use Rattle.abi_calls.specs.Objects.{Objects}
use Rattle.libos_state.specs.declared.cont.Cont.{Cont}
use Rattle.libos_state.specs.declared.state.Boot.{Boot}
use Rattle.libos_state.specs.declared.state.LibOs.{LibOs}
use Rattle.libos_state.specs.Named.{Named}
use Rattle.libos_state.specs.Fits.{FitsRecords, FitsObjects}

-- The library OS with another service in progress, or another way that its start went.
abbrev pub with_service : LibOs → Boot → Option Cont → LibOs
with_service os boot cont = record os { boot = boot; cont = cont }

pub FitsRecords-with_service : (os : LibOs) (boot : Boot) (cont : Option Cont) → FitsRecords os
    → FitsRecords (with_service os boot cont)
FitsRecords-with_service os boot cont fits = record {
  pids = fits.pids;
  tids = fits.tids;
  ids = fits.ids;
  given_pids = fits.given_pids;
  given_tids = fits.given_tids;
  processes = fits.processes;
  threads = fits.threads;
  described = fits.described;
  access = fits.access;
  append = fits.append;
  parents = fits.parents;
  queued = fits.queued;
  waits_once = fits.waits_once;
  few_ids = fits.few_ids;
}

pub FitsObjects-with_service : (os : LibOs) (boot : Boot) (cont : Option Cont) (o : Objects)
    (kept : List Named) (ending : Option ℕ) → FitsObjects os o kept ending
    → FitsObjects (with_service os boot cont) o kept ending
FitsObjects-with_service os boot cont o kept ending fits = record {
  once = fits.once;
  kinds = fits.kinds;
  homes = fits.homes;
  codes = fits.codes;
}
