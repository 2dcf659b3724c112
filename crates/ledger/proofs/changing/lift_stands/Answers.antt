-- How the plan stands.
use Rattle.ledger.proofs.Linked.{lift_stands}
use Rattle.ledger.proofs.changing.lift_stands.Goals as goal

pub returns-clause-stands : goal.returns-clause-stands
returns-clause-stands g c = search lift_stands
