-- What holds of a plan's tables.
--
--   Holds m v    at most 256 stations, links as a plan has them; each marked row is right, and each other row is cleared
use Rattle.std.specs.Prelude.{◌≡◌, ℕ, ◌<◌, ◌≤◌, true, false}
use Rattle.cost.specs.Kind.{Kind}
use Rattle.queue.specs.Meaning.{most_stations}
use Rattle.routes.specs.Row.{Right}
use Rattle.ledger.specs.Ledger.{network}
use Rattle.ledger.specs.View.{View, cleared}
use Rattle.ledger.specs.Fair.{Fair}

pub record Holds {K : Type 0} (m : Kind K) (v : View K) : Type 0 where
  pub not_too_many : v.ledger.stations ≤ most_stations
  pub fair : Fair m (network v.ledger)
  pub marked : (a : ℕ) → a < v.ledger.stations → v.ledger.marked a ≡ true → Right m (network v.ledger) a (v.rows a)
  pub unmarked : (a : ℕ) → a < v.ledger.stations → v.ledger.marked a ≡ false → v.rows a ≡ cleared m
