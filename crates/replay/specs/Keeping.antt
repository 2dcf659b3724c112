-- What no replay changes, and which entries change nothing.
--
--   Asks e       the entry e asks for a cost or a route, or tests a supplier's row
--   Unqueued e   the entry e works no row
--   Past t t'    t' has as many stations as t and as many places for links, and its cells past the rows are as they were
use Rattle.std.specs.Prelude.{◌≡◌, ◌*◌, length, drop}
use Rattle.tables.specs.declared.state.Tables.{Tables}
use Rattle.replay.specs.declared.entry.Entry.{Entry}
use Rattle.replay.specs.declared.entry.Entry.TheVariants.{Lay, Lift, Work, Cost, Route, Check}

abbrev pub Asks : {K : Type 0} → Entry K → Type 0
Asks (Lay a b c) = ⊥
Asks (Lift a b) = ⊥
Asks (Work a method) = ⊥
Asks (Cost a b) = Unit {0}
Asks (Route a b places) = Unit {0}
Asks (Check a costs predecessors) = Unit {0}

abbrev pub Unqueued : {K : Type 0} → Entry K → Type 0
Unqueued (Lay a b c) = Unit {0}
Unqueued (Lift a b) = Unit {0}
Unqueued (Work a method) = ⊥
Unqueued (Cost a b) = Unit {0}
Unqueued (Route a b places) = Unit {0}
Unqueued (Check a costs predecessors) = Unit {0}

pub record Past {K : Type 0} (t t' : Tables K) : Type 0 where
  pub stations : t'.stations ≡ t.stations
  pub places : length t'.list.now ≡ length t.list.now
  pub costs : drop (t.stations * t.stations) t'.costs.now ≡ drop (t.stations * t.stations) t.costs.now
  pub predecessors : drop (t.stations * t.stations) t'.predecessors.now ≡ drop (t.stations * t.stations) t.predecessors.now
