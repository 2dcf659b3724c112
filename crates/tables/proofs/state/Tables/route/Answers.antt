use Rattle.ledger.proofs.Calls.{route_by_log, route_reckoned}
use Rattle.tables.proofs.state.Tables.route.Goals as goal

pub returns-clause-answer : goal.returns-clause-answer
returns-clause-answer g c = route_reckoned g.met.K.Cost.lawful g.met.K.Cost.strict c.trace_route.ensures.effect

pub returns-clause-due : goal.returns-clause-due
returns-clause-due g c = route_by_log g.met.K.Cost.lawful g.met.K.Cost.strict c.trace_route.ensures.effect
