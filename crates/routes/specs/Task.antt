-- What a row is worked from.
--
--   Task K                 the network, the rows that are worked already, the source and the method
--   Workable task          the source is a station, and the links run between stations
--   RowsRight m task xs    of the stations xs those rows that are worked already are right
use Rattle.std.specs.Prelude.{◌≡◌, ℕ, ◌<◌, ◌≤◌, List, Option, Some}
use Rattle.cost.specs.Kind.{Kind}
use Rattle.queue.specs.Drained.{times}
use Rattle.routes.specs.Network.{Network, Between}
use Rattle.routes.specs.Row.{Row, Right}
use Rattle.routes.specs.declared.method.Method.{Method}

pub record Task (K : Type 0) : Type 0 where
  pub network : Network K
  pub rows : ℕ → Option (Row K)
  pub source : ℕ
  pub method : Method

pub record Workable {K : Type 0} (task : Task K) : Type 0 where
  pub source_there : task.source < task.network.stations
  pub between : Between task.network

pub record RowsRight {K : Type 0} (m : Kind K) (task : Task K) (xs : List ℕ) : Type 0 where
  pub right : (t : ℕ) (row : Row K) → 1 ≤ times t xs → task.rows t ≡ Some row → Right m task.network t row
