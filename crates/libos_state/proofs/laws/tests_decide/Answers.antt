use Rattle.libos_state.proofs.Alone.{alone_decides, Decides-fits_service}
use Rattle.libos_state.proofs.laws.tests_decide.Goals as goal

pub returns-clause-library : goal.returns-clause-library
returns-clause-library c = λ os. alone_decides os

pub returns-clause-service : goal.returns-clause-service
returns-clause-service c = λ os cont stage. Decides-fits_service os cont stage
