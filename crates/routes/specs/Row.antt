-- Rows of a table: what it holds of the walks from one source.
--
--   Row K                 a cost and a predecessor for each station
--   Right m net A row     of each station the cost is least; a predecessor is missing exactly at the source and at FAR; each one given
--                         stands last before its station on a walk of that least cost
use Rattle.std.specs.Prelude.{◌≡◌, ℕ, ◌<◌, Option, Some, None, ◌⊎◌, ◌↔◌}
use Rattle.cost.specs.Kind.{Kind, Same}
use Rattle.routes.specs.Network.{Network}
use Rattle.routes.specs.Walk.{LastBefore}
use Rattle.routes.specs.Least.{Least}

pub record Row (K : Type 0) : Type 0 where
  pub costs : ℕ → K
  pub predecessors : ℕ → Option ℕ

pub record Right {K : Type 0} (m : Kind K) (net : Network K) (A : ℕ) (row : Row K) : Type 0 where
  pub least : (B : ℕ) → B < net.stations → Least m net A B (row.costs B)
  pub missing : (B : ℕ) → B < net.stations → (row.predecessors B ≡ None) ↔ ((B ≡ A) ⊎ Same m (row.costs B) m.far)
  pub given : (B p : ℕ) → B < net.stations → row.predecessors B ≡ Some p → LastBefore m net A p B (row.costs B)
