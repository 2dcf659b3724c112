-- How the plan stands.
use Rattle.ledger.proofs.Reworked.{work_stands}
use Rattle.ledger.proofs.changing.work_stands.Goals as goal

pub returns-clause-stands : goal.returns-clause-stands
returns-clause-stands g c = search work_stands
