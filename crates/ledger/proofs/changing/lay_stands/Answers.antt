-- How the plan stands.
use Rattle.ledger.proofs.Linked.{lay_stands}
use Rattle.ledger.proofs.changing.lay_stands.Goals as goal

pub returns-clause-stands : goal.returns-clause-stands
returns-clause-stands g c = search lay_stands
