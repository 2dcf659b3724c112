-- Lifting one.
use Rattle.ledger.proofs.FairKept.{fair_lifted}
use Rattle.ledger.proofs.links.links_stay_fair.Goals as goal

pub returns-clause-lifted : goal.returns-clause-lifted
returns-clause-lifted g c = search fair_lifted
