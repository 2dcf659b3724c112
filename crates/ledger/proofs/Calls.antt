-- What the calls of a plan promise over every log, from what their code shows.
use Rattle.std.proofs.Common.{ℕ, List, length, Result}
use Rattle.cost.specs.Kind.{Kind}
use Rattle.cost.specs.Laws.{Laws, Strict}
use Rattle.queue.specs.Meaning.{Meaning}
use Rattle.refusal.specs.declared.Refusal.{Refusal}
use Rattle.routes.specs.declared.method.Method.{Method}
use Rattle.ledger.specs.View.{View}
use Rattle.ledger.specs.Log.{lay, lift, work, cost, route, check}
use Rattle.ledger.specs.Due.{CostGiven, RouteGiven}
use Rattle.ledger.specs.Logged.{ByLog, Logged, Reckoned}
use Rattle.ledger.specs.Answers.{LayAnswer, LiftAnswer, WorkAnswer, CostAnswer}
use Rattle.ledger.specs.RouteAnswer.{RouteAnswer}
use Rattle.ledger.specs.CheckAnswer.{CheckAnswer}
use Rattle.ledger.specs.Effects.{LayEffect, LiftEffect, WorkEffect, CostEffect, RouteEffect, CheckEffect}
use Rattle.ledger.proofs.Linked.{lay_stands, lay_answers, lift_stands, lift_answers}
use Rattle.ledger.proofs.Reworked.{work_stands, work_answers}
use Rattle.ledger.proofs.Dues.{cost_when_due, route_when_due}
use Rattle.ledger.proofs.Asked.{cost_stands, cost_answers, route_stands, route_answers, check_stands, check_answers}

module _ {K : Type 0} {m : Kind K} {before after : View K} where
  module _ (a b : ℕ) {T : Type 0} {r : Result T Refusal} where
    pub lay_logged : (c : K) → LayEffect m before after a b c r → Logged m (lay a b c) before after
    lay_logged c effect = record { stands = λ start log stands. lay_stands stands a b c effect }

    pub lay_reckoned : (c : K) → LayEffect m before after a b c r → Reckoned m before (λ g. LayAnswer m g a b c r)
    lay_reckoned c effect = record { by_ledger = λ start log stands. lay_answers stands a b c effect }

    pub lift_logged : LiftEffect m before after a b r → Logged m (lift a b) before after
    lift_logged effect = record { stands = λ start log stands. lift_stands stands a b effect }

    pub lift_reckoned : LiftEffect m before after a b r → Reckoned m before (λ g. LiftAnswer g a b r)
    lift_reckoned effect = record { by_ledger = λ start log stands. lift_answers stands a b effect }

  module _ {T : Type 0} {r : Result T Refusal} {a : ℕ} {method : Method} {queue : Meaning} where
    pub work_logged : Laws m → Strict m → WorkEffect m before after a method r queue → Logged m (work a method) before after
    work_logged laws strict effect = record { stands = λ start log stands. work_stands laws strict stands effect }

    pub work_reckoned : Laws m → Strict m → WorkEffect m before after a method r queue → Reckoned m before (λ g. WorkAnswer m g before.rows a method r (after.rows a) queue)
    work_reckoned laws strict effect = record { by_ledger = λ start log stands. work_answers laws strict stands effect }

module _ {K : Type 0} {m : Kind K} {v : View K} where
  pub cost_logged : {a b : ℕ} → Logged m (cost a b) v v
  cost_logged {a} {b} = record { stands = λ start log stands. cost_stands stands a b }

  pub cost_reckoned : {a b : ℕ} {r : Result K Refusal} → CostEffect v a b r → Reckoned m v (λ g. CostAnswer m g (v.rows a) a b r)
  cost_reckoned effect = record { by_ledger = λ start log stands. cost_answers stands effect }

  pub cost_by_log : {a b : ℕ} {r : Result K Refusal} → CostEffect v a b r → ByLog m v (λ start log. CostGiven m start log a b r)
  cost_by_log effect = record { by_log = λ start log stands. cost_when_due stands.starts (cost_answers stands effect) }

  pub route_logged : {a b places : ℕ} → Logged m (route a b places) v v
  route_logged {a} {b} {places} = record { stands = λ start log stands. route_stands stands a b places }

  pub route_reckoned : {a b : ℕ} {old new : List ℕ} {r : Result ℕ Refusal} → Laws m → Strict m → RouteEffect m v a b old new r → Reckoned m v (λ g. RouteAnswer m g (v.rows a) a b old new r)
  route_reckoned laws strict effect = record { by_ledger = λ start log stands. route_answers stands laws strict effect }

  pub route_by_log : {a b : ℕ} {old new : List ℕ} {r : Result ℕ Refusal} → Laws m → Strict m → RouteEffect m v a b old new r
      → ByLog m v (λ start log. RouteGiven m start log a b (length old) r)
  route_by_log laws strict effect = record { by_log = λ start log stands. route_when_due stands.starts laws (route_answers stands laws strict effect) }

  pub check_logged : {a : ℕ} {costs : List K} {predecessors : List ℕ} → Logged m (check a costs predecessors) v v
  check_logged {a} {costs} {predecessors} = record { stands = λ start log stands. check_stands stands a costs predecessors }

  pub check_reckoned : {T : Type 0} {a : ℕ} {costs : List K} {predecessors : List ℕ} {r : Result T Refusal} → Laws m → Strict m → CheckEffect m v.ledger a costs predecessors r → Reckoned m v (λ g. CheckAnswer m g a costs predecessors r)
  check_reckoned laws strict effect = record { by_ledger = λ start log stands. check_answers stands laws strict effect }

-- what the contracts want
pub ruleset laying = (lay_logged, lay_reckoned)

pub ruleset lifting = (lift_logged, lift_reckoned)

pub ruleset asking_cost = (cost_logged, cost_reckoned)
