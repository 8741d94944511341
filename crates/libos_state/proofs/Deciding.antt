-- A test with the answer of the definition decides what the definition decides.
use Rattle.std.specs.Prelude.{◌≡◌, Bool, Decides}
use Rattle.std.proofs.Common.{sym, subst}
use Rattle.libos_state.specs.declared.state.LibOs.{LibOs}
use Rattle.libos_state.specs.Alone.{FitsAlone, fits_alone}
use Rattle.libos_state.proofs.Alone.{alone_decides}

pub fits_decides : (os : LibOs) (fit : Bool) → fit ≡ fits_alone os → Decides fit (FitsAlone os)
fits_decides os fit is = subst (λ b. Decides b (FitsAlone os)) (sym is) (alone_decides os)
