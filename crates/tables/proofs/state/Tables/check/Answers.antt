use Rattle.ledger.proofs.Calls.{check_reckoned}
use Rattle.tables.proofs.state.Tables.check.Goals as goal

pub returns-clause-answer : goal.returns-clause-answer
returns-clause-answer g c = check_reckoned g.met.K.Cost.lawful g.met.K.Cost.strict c.test_row.ensures.effect
