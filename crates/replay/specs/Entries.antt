-- Entries as a replay is given them.
--
--   meant e        the entry of the log that e stands for
--   places_of e    how many places of the pool e wants: a route what it says, and all others none
use Rattle.std.specs.Prelude.{ℕ}
use Rattle.ledger.specs.Log.{Entry, lay, lift, work, cost, route, check}
use Rattle.replay.specs.declared.entry.Entry.{Entry as Given}
use Rattle.replay.specs.declared.entry.Entry.TheVariants.{Lay, Lift, Work, Cost, Route, Check}

abbrev pub meant : {K : Type 0} → Given K → Entry K
meant (Lay a b c) = lay a b c
meant (Lift a b) = lift a b
meant (Work a method) = work a method
meant (Cost a b) = cost a b
meant (Route a b places) = route a b places
meant (Check a costs predecessors) = check a costs.now predecessors.now

abbrev pub places_of : {K : Type 0} → Given K → ℕ
places_of (Route a b places) = places
places_of e = 0
