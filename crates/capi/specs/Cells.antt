-- A table as numbers, cell by cell.
--
--   CellTold m net a b x y    x is the number of the least cost from a to b; y is 65,535 exactly where b is the source or is at FAR, and
--                             else a station that stands last before b on a walk of that cost
use Rattle.std.specs.Prelude.{◌≡◌, ◌≢◌, ◌↔◌, ℕ, ◌⊎◌}
use Rattle.cost.specs.Kind.{Kind, Same}
use Rattle.routes.specs.Least.{Least}
use Rattle.routes.specs.Network.{Network}
use Rattle.routes.specs.Walk.{LastBefore}

pub record CellTold {K : Type 0} (m : Kind K) (net : Network K) (a b x y : ℕ) : Type 0 where
  pub cost : K
  pub least : Least m net a b cost
  pub number : x ≡ m.rank cost
  pub missing : y ≡ 65535 ↔ (b ≡ a) ⊎ Same m cost m.far
  pub given : (y ≢ 65535) → LastBefore m net a y b cost
