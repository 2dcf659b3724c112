-- Chains of predecessors.
--
--   Chain row A B xs          the stations xs lead from A to B, each but the first after its predecessor in the row
--   Route m net A row B xs    xs are the stations of a walk from A to B that costs what the row says of B, none of them twice, and so at
--                             most as many as there are stations
use Rattle.std.specs.Prelude.{◌≡◌, ℕ, ◌≤◌, List, [], ◌∷◌, ◌++◌, length, Some}
use Rattle.cost.specs.Kind.{Kind, Same}
use Rattle.routes.specs.NoneTwice.{NoneTwice}
use Rattle.routes.specs.Network.{Network}
use Rattle.routes.specs.Row.{Row}
use Rattle.routes.specs.Walk.{Walk, stations_of}

pub data Chain {K : Type 0} (row : Row K) (A : ℕ) : ℕ → List ℕ → Type 0 where
  source : Chain row A A (A ∷ [])
  after : {p B : ℕ} {xs : List ℕ} → Chain row A p xs → row.predecessors B ≡ Some p → Chain row A B (xs ++ B ∷ [])

pub record Route {K : Type 0} (m : Kind K) (net : Network K) (A : ℕ) (row : Row K) (B : ℕ) (xs : List ℕ) : Type 0 where
  pub cost : K
  pub walk : Walk m net A B cost
  pub costs_that : Same m cost (row.costs B)
  pub passes : stations_of walk ≡ xs
  pub none_twice : NoneTwice xs
  pub few : length xs ≤ net.stations
