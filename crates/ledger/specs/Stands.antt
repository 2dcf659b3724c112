-- How a plan stands after its log.
--
--   Stands m start log v    the plan began with the ledger start; after the log its ledger is what is reckoned from both, and
--                           what holds of a plan's tables holds of it
use Rattle.std.specs.Prelude.{◌≡◌, List}
use Rattle.cost.specs.Kind.{Kind}
use Rattle.ledger.specs.Ledger.{Ledger}
use Rattle.ledger.specs.View.{View}
use Rattle.ledger.specs.Log.{Entry, reckon}
use Rattle.ledger.specs.Starts.{Starts}
use Rattle.ledger.specs.Holds.{Holds}

pub record Stands {K : Type 0} (m : Kind K) (start : Ledger K) (log : List (Entry K)) (v : View K) : Type 0 where
  pub starts : Starts m start
  pub reckoned : v.ledger ≡ reckon m start log
  pub holds : Holds m v
