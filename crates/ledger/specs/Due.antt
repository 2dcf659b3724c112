-- When a cost and a route are answered, in words of the site log.
--
--   NotFar m net a b           the least cost from a to b is below FAR
--   CostDue m start log a b    both are stations of the plan, and row a was worked since a link was last laid or lifted
--   RouteDue m start log a b   a cost is due, and the least on the links that are laid then is below FAR
--   CostGiven .. r             a cost is answered exactly where one is due
--   RouteGiven .. places r     a route is answered only where one is due, and there always by a list with a place for each station
use Rattle.std.specs.Prelude.{◌↔◌, ℕ, ◌<◌, ◌≤◌, List, Result, IsOk}
use Rattle.cost.specs.Kind.{Kind, Below}
use Rattle.refusal.specs.declared.Refusal.{Refusal}
use Rattle.routes.specs.Least.{Least}
use Rattle.routes.specs.Network.{Network}
use Rattle.ledger.specs.Ledger.{Ledger, network}
use Rattle.ledger.specs.Log.{Entry, reckon}
use Rattle.ledger.specs.Marks.{WorkedSince}

pub record NotFar {K : Type 0} (m : Kind K) (net : Network K) (a b : ℕ) : Type 0 where
  pub cost : K
  pub least : Least m net a b cost
  pub below : Below m cost m.far

module _ {K : Type 0} (m : Kind K) (start : Ledger K) (log : List (Entry K)) (a b : ℕ) where
  pub record CostDue : Type 0 where
    pub from_there : a < start.stations
    pub to_there : b < start.stations
    pub worked : WorkedSince m start log a

  pub record RouteDue : Type 0 where
    pub cost_due : CostDue
    pub near : NotFar m (network (reckon m start log)) a b

  module _ {T : Type 0} where
    abbrev pub CostGiven : Result T Refusal → Type 0
    CostGiven r = IsOk r ↔ CostDue

    abbrev pub RouteGiven : ℕ → Result T Refusal → Type 0
    RouteGiven places r = (IsOk r → RouteDue) × (start.stations ≤ places → RouteDue → IsOk r)
