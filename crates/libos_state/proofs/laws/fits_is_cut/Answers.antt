use Rattle.libos_state.proofs.Alone.{Fits-cut}
use Rattle.libos_state.proofs.laws.fits_is_cut.Goals as goal

pub returns : goal.returns
returns c = λ os o. Fits-cut os o
