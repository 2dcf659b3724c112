-- What asking for a route has to answer, by the ledger that was reckoned from the log, and what stands in the caller's list then.
--
--   route_refusal    the refusals but for the last: those of a cost, and that the cost is FAR
--   Routed           some stations lead from a to b by the row, and are a route; where the list is long enough they are counted, and
--                    written at its start, else the call is refused; a list with a place for each station is long enough
--   RouteAnswer      one of these refusals, or stations are routed; the row's cost is least; a refused call leaves the list as it is
use Rattle.std.specs.Prelude.{◌≡◌, ℕ, ◌≤◌, not, ◌||◌, ◌==◌, nat_lt, List, ◌++◌, length, drop, Option, Some, None, Result, IsOk, IfOk, OnErr}
use Rattle.cost.specs.Kind.{Kind, FAR}
use Rattle.refusal.specs.Code.{bare}
use Rattle.refusal.specs.First.{refused_if, told}
use Rattle.refusal.specs.declared.Code.{Code}
use Rattle.refusal.specs.declared.Refusal.{Refusal}
use Rattle.routes.specs.Chain.{Chain, Route}
use Rattle.routes.specs.Least.{Least}
use Rattle.routes.specs.Row.{Row}
use Rattle.ledger.specs.Ledger.{Ledger, network}
use Rattle.ledger.specs.Refusals.{no_station, cost_refusal}

module _ {K : Type 0} (m : Kind K) (g : Ledger K) (row : Row K) (a b : ℕ) where
  abbrev pub route_refusal : Option Code
  route_refusal =
      refused_if (no_station g a || no_station g b) (bare 3)
      (refused_if (not (g.marked a)) (bare 10)
      (refused_if (m.rank (row.costs b) == FAR) (bare 11) None))

  module _ (old new : List ℕ) (r : Result ℕ Refusal) where
    pub record Routed : Type 0 where
      pub stations : List ℕ
      pub chain : Chain row a b stations
      pub route : Route m (network g) a row b stations
      pub refusal : told r ≡ refused_if (nat_lt (length old) (length stations)) (bare 12) None
      pub written : IfOk r (λ count. (count ≡ length stations) × (new ≡ stations ++ drop count old))
      pub enough : g.stations ≤ length old → IsOk r

    pub record RouteAnswer : Type 0 where
      pub refused : (code : Code) → route_refusal ≡ Some code → told r ≡ Some code
      pub least : cost_refusal g a b ≡ None → Least m (network g) a b (row.costs b)
      pub routed : route_refusal ≡ None → Routed
      pub kept : OnErr r (new ≡ old)
