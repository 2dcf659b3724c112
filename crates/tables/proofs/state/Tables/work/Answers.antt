use Rattle.ledger.proofs.Calls.{work_logged, work_reckoned}
use Rattle.tables.proofs.state.Tables.work.Goals as goal

pub returns-clause-logged : goal.returns-clause-logged
returns-clause-logged g c = work_logged g.met.K.Cost.lawful g.met.K.Cost.strict c.fill_row.ensures.effect

pub returns-clause-answer : goal.returns-clause-answer
returns-clause-answer g c = work_reckoned g.met.K.Cost.lawful g.met.K.Cost.strict c.fill_row.ensures.effect
