-- A row that is accepted.
use Rattle.ledger.proofs.Agreed.{check_costs}
use Rattle.ledger.proofs.agreeing.checks_agree.Goals as goal

pub returns-clause-costs : goal.returns-clause-costs
returns-clause-costs g c m laws ledger row a b x costs predecessors cost accepted answered = check_costs laws accepted answered
