-- What an entry leaves of the plan and of the queue.
--
--   accepted a                   a is the answer of a call that was not refused
--   Changes m before after e     what e changes where it is accepted: laying and lifting, the plan alone; working, one row, which is marked
--                                then, and the queue as the answer tells; asking and testing, nothing
--   Leaves m before after e a    that where a is accepted, else nothing is changed
use Rattle.std.specs.Prelude.{◌≡◌, Bool, true, false, is_ok}
use Rattle.cost.specs.Kind.{Kind}
use Rattle.ledger.specs.After.{after_lay, after_lift}
use Rattle.tables.specs.Relinked.{Relinked}
use Rattle.tables.specs.Working.{RowFilled}
use Rattle.plan.specs.View.{view}
use Rattle.replay.specs.Moment.{Moment}
use Rattle.replay.specs.declared.entry.Entry.{Entry}
use Rattle.replay.specs.declared.entry.Entry.TheVariants.{Lay, Lift, Work, Cost, Route, Check}
use Rattle.replay.specs.declared.entry.Answer.{Answer}
use Rattle.replay.specs.declared.entry.Answer.TheVariants.{Lay as Laid, Lift as Lifted, Work as Worked, Cost as Costed, Route as Routed, Check as Checked}

abbrev pub accepted : {K : Type 0} → Answer K → Bool
accepted (Laid r) = is_ok r
accepted (Lifted r) = is_ok r
accepted (Worked r) = is_ok r
accepted (Costed r) = is_ok r
accepted (Routed r) = is_ok r
accepted (Checked r) = is_ok r

module _ {K : Type 0} (m : Kind K) (before after : Moment K) where
  abbrev pub Changes : Entry K → Type 0
  Changes (Lay a b c) = Relinked m (after_lay (view m before.plan).ledger a b c) before.plan after.plan × (after.queue ≡ before.queue)
  Changes (Lift a b) = Relinked m (after_lift (view m before.plan).ledger a b) before.plan after.plan × (after.queue ≡ before.queue)
  Changes (Work a method) = RowFilled a before.plan after.plan
  Changes (Cost a b) = after ≡ before
  Changes (Route a b places) = after ≡ before
  Changes (Check a costs predecessors) = after ≡ before

  pub record Leaves (e : Entry K) (a : Answer K) : Type 0 where
    pub changes : accepted a ≡ true → Changes e
    pub kept : accepted a ≡ false → after ≡ before
