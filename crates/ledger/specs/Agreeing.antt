-- What a route that is answered is to a cost that is answered.
--
--   Goes m net a b c xs    xs are the stations of a walk from a to b that costs c, none of them twice, and at most as many as there are
use Rattle.std.specs.Prelude.{◌≡◌, ℕ, ◌≤◌, List, length}
use Rattle.cost.specs.Kind.{Kind, Same}
use Rattle.routes.specs.Network.{Network}
use Rattle.routes.specs.NoneTwice.{NoneTwice}
use Rattle.routes.specs.Walk.{Walk, stations_of}

pub record Goes {K : Type 0} (m : Kind K) (net : Network K) (a b : ℕ) (c : K) (xs : List ℕ) : Type 0 where
  pub cost : K
  pub walk : Walk m net a b cost
  pub costs_that : Same m cost c
  pub passes : stations_of walk ≡ xs
  pub none_twice : NoneTwice xs
  pub few : length xs ≤ net.stations
