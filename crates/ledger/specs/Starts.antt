-- The ledger at the start of a site log.
--
--   Starts m g    links as a plan has them, and no row marked; at most 256 stations, and none in a plan that is not commissioned yet
use Rattle.std.specs.Prelude.{◌≡◌, ◌≤◌}
use Rattle.cost.specs.Kind.{Kind}
use Rattle.queue.specs.Meaning.{most_stations}
use Rattle.ledger.specs.Ledger.{Ledger, network, unmarked}
use Rattle.ledger.specs.Fair.{Fair}

pub record Starts {K : Type 0} (m : Kind K) (g : Ledger K) : Type 0 where
  pub not_too_many : g.stations ≤ most_stations
  pub fair : Fair m (network g)
  pub none_marked : g.marked ≡ unmarked
