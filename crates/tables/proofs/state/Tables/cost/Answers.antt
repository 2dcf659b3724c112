use Rattle.ledger.proofs.Calls.{cost_by_log}
use Rattle.tables.proofs.state.Tables.cost.Goals as goal

pub returns-clause-due : goal.returns-clause-due
returns-clause-due g c = cost_by_log c.cost_at.ensures.effect
