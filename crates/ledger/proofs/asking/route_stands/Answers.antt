-- What is answered.
use Rattle.ledger.proofs.Asked.{route_answers}
use Rattle.ledger.proofs.asking.route_stands.Goals as goal

pub returns-clause-answer : goal.returns-clause-answer
returns-clause-answer g c = search route_answers
