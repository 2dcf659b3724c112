-- What the answer to an entry has to be.
--
--   Says m g before after e a old new    a is the right answer to e by the ledger g, which was reckoned from the log before it; a work
--                                        answers the number taken; a route's places held old, and hold new
use Rattle.std.specs.Prelude.{◌≡◌, ℕ, List, IfOk}
use Rattle.cost.specs.Kind.{Kind}
use Rattle.ledger.specs.Ledger.{Ledger}
use Rattle.ledger.specs.Answers.{LayAnswer, LiftAnswer, WorkAnswer, CostAnswer}
use Rattle.ledger.specs.RouteAnswer.{RouteAnswer}
use Rattle.ledger.specs.CheckAnswer.{CheckAnswer}
use Rattle.plan.specs.View.{view}
use Rattle.replay.specs.Moment.{Moment}
use Rattle.replay.specs.declared.entry.Entry.{Entry}
use Rattle.replay.specs.declared.entry.Entry.TheVariants.{Lay, Lift, Work, Cost, Route, Check}
use Rattle.replay.specs.declared.entry.Answer.{Answer}
use Rattle.replay.specs.declared.entry.Answer.TheVariants.{Lay as Laid, Lift as Lifted, Work as Worked, Cost as Costed, Route as Routed, Check as Checked}

module _ {K : Type 0} (m : Kind K) (g : Ledger K) (before after : Moment K) where
  abbrev pub Says : Entry K → Answer K → List ℕ → List ℕ → Type 0
  Says (Lay a b c) (Laid r) old new = LayAnswer m g a b c r
  Says (Lift a b) (Lifted r) old new = LiftAnswer g a b r
  Says (Work a method) (Worked r) old new =
      WorkAnswer m g (view m before.plan).rows a method r ((view m after.plan).rows a) after.queue × IfOk r (λ taken. taken ≡ after.queue.taken)
  Says (Cost a b) (Costed r) old new = CostAnswer m g ((view m before.plan).rows a) a b r
  Says (Route a b places) (Routed r) old new = RouteAnswer m g ((view m before.plan).rows a) a b old new r
  Says (Check a costs predecessors) (Checked r) old new = CheckAnswer m g a costs.now predecessors.now r
  Says e a old new = ⊥
