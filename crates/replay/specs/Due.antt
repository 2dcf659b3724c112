-- Which questions of a list of entries are answered, in words of the site log.
--
--   Due m start log e a old    a cost or a route is answered where the log, and the list old of the caller's, say that it is due, and nowhere
--                              else; any other entry may be answered in any way
use Rattle.std.specs.Prelude.{ℕ, List, length, ⊤}
use Rattle.cost.specs.Kind.{Kind}
use Rattle.ledger.specs.Due.{CostGiven, RouteGiven}
use Rattle.ledger.specs.Ledger.{Ledger}
use Rattle.ledger.specs.Log.{Entry}
use Rattle.replay.specs.declared.entry.Entry.{Entry as Given}
use Rattle.replay.specs.declared.entry.Entry.TheVariants.{Cost, Route}
use Rattle.replay.specs.declared.entry.Answer.{Answer}
use Rattle.replay.specs.declared.entry.Answer.TheVariants.{Cost as Costed, Route as Routed}

module _ {K : Type 0} (m : Kind K) (start : Ledger K) (log : List (Entry K)) where
  abbrev pub Due : Given K → Answer K → List ℕ → Type 0
  Due (Cost a b) (Costed r) old = CostGiven m start log a b r
  Due (Route a b places) (Routed r) old = RouteGiven m start log a b (length old) r
  Due e a old = ⊤
