-- A cost is answered exactly where it is due, and so is a route by a list that is long enough.
use Rattle.std.proofs.Common.{◌≡◌, ◌≢◌, ◌↔◌, ℕ, ◌<◌, ◌≤◌, List, [], ◌∷◌, length, true, Option, Some, None, Result, Ok, Err, IsOk, refl, sym, ◌∙◌, arith}
use Rattle.std.proofs.lemmas.Bool.Decides.{nat_tests}
use Rattle.cost.specs.Kind.{Kind, FAR}
use Rattle.cost.specs.Laws.{Laws}
use Rattle.refusal.specs.First.{told}
use Rattle.refusal.specs.declared.Code.{Code}
use Rattle.refusal.specs.declared.Refusal.{Refusal}
use Rattle.routes.proofs.Costs.{at_most_far}
use Rattle.routes.proofs.OneLeast.{one_least}
use Rattle.routes.specs.Row.{Row}
use Rattle.ledger.specs.Ledger.{Ledger}
use Rattle.ledger.specs.Refusals.{cost_refusal, lay_refusal, lift_refusal, work_refusal}
use Rattle.ledger.specs.After.{after_lay, after_lift, after_work}
use Rattle.ledger.specs.Log.{Entry, lay, lift, work, cost, route, check, unless, entered, reckon}
use Rattle.ledger.specs.Starts.{Starts}
use Rattle.ledger.specs.Due.{CostDue, CostGiven, RouteDue, RouteGiven}
use Rattle.ledger.specs.Answers.{CostAnswer}
use Rattle.ledger.specs.RouteAnswer.{route_refusal, RouteAnswer}
use Rattle.ledger.proofs.Asked.{told_ok}
use Rattle.ledger.proofs.Since.{worked_since, since_worked}

-- no entry changes how many stations there are
module _ {K : Type 0} (m : Kind K) where
  unless_stations : (why : Option Code) (g h : Ledger K) → h.stations ≡ g.stations → (unless why g h).stations ≡ g.stations
  unless_stations None g h same = same
  unless_stations (Some code) g h same = refl

  entered_stations : (g : Ledger K) (e : Entry K) → (entered m g e).stations ≡ g.stations
  entered_stations g (lay a b c) = unless_stations (lay_refusal m g a b c) g (after_lay g a b c) refl
  entered_stations g (lift a b) = unless_stations (lift_refusal g a b) g (after_lift g a b) refl
  entered_stations g (work a method) = unless_stations (work_refusal g a) g (after_work g a) refl
  entered_stations g (cost a b) = refl
  entered_stations g (route a b places) = refl
  entered_stations g (check a costs predecessors) = refl

  reckoned_stations : (start : Ledger K) (log : List (Entry K)) → (reckon m start log).stations ≡ start.stations
  reckoned_stations start [] = refl
  reckoned_stations start (e ∷ log) = reckoned_stations (entered m start e) log ∙ entered_stations start e

-- a call that is accepted tells of no refusal
ok_told : {T : Type 0} (r : Result T Refusal) → IsOk r → told r ≡ None
ok_told (Ok x) ok = refl
ok_told (Err why) ok = absurd (cc ok)

module _ {K : Type 0} (g : Ledger K) (a b : ℕ) where
  -- what it means that asking for a cost meets no refusal
  none_means : cost_refusal g a b ≡ None → (a < g.stations) × (b < g.stations) × (g.marked a ≡ true)
  none_means none = (grind (arith, nat_tests), grind (arith, nat_tests), grind (arith, nat_tests))

  means_none : a < g.stations → b < g.stations → g.marked a ≡ true → cost_refusal g a b ≡ None
  means_none from to on = grind (arith, nat_tests)

-- a route that is answered meets none of its refusals
none_refused : {K : Type 0} {m : Kind K} {g : Ledger K} {row : Row K} {a b : ℕ} {old new : List ℕ} {r : Result ℕ Refusal}
    → RouteAnswer m g row a b old new r → IsOk r → (o : Option Code) → route_refusal m g row a b ≡ o → route_refusal m g row a b ≡ None
none_refused answer ok None is = is
none_refused {r = r} answer ok (Some code) is = absurd (cc (sym (ok_told r ok) ∙ answer.refused code is))

module _ {K : Type 0} {m : Kind K} {start : Ledger K} {log : List (Entry K)} {a b : ℕ} (starts : Starts m start) where
  due : cost_refusal (reckon m start log) a b ≡ None → CostDue m start log a b
  due none =
      let means = none_means (reckon m start log) a b none in
      let same = reckoned_stations m start log in record {
        from_there = omega (arith, means.0, same);
        to_there = omega (arith, means.1, same);
        worked = worked_since m a starts means.2;
      }

  of_due : CostDue m start log a b → cost_refusal (reckon m start log) a b ≡ None
  of_due h =
      let same = reckoned_stations m start log in
      means_none (reckon m start log) a b (omega (arith, h.from_there, same)) (omega (arith, h.to_there, same)) (since_worked m a h.worked)

  pub cost_when_due : {row : Row K} {r : Result K Refusal} → CostAnswer m (reckon m start log) row a b r → CostGiven m start log a b r
  cost_when_due {row} {r} answer = (λ ok. due (sym answer.refusal ∙ ok_told r ok), λ h. told_ok r (answer.refusal ∙ of_due h))

  module _ (laws : Laws m) {row : Row K} {old new : List ℕ} {r : Result ℕ Refusal} (answer : RouteAnswer m (reckon m start log) row a b old new r) where
    given : IsOk r → RouteDue m start log a b
    given ok =
        let none = none_refused answer ok (route_refusal m (reckon m start log) row a b) refl in
        let none_of_cost : cost_refusal (reckon m start log) a b ≡ None = grind (arith, nat_tests) in
        let not_far : m.rank (row.costs b) ≢ FAR = λ e. grind (arith, nat_tests) in record {
          cost_due = due none_of_cost;
          near = record {
            cost = row.costs b;
            least = answer.least none_of_cost;
            below = omega (arith, laws.far_rank, at_most_far laws (row.costs b), not_far);
          };
        }

    got : RouteDue m start log a b → start.stations ≤ length old → IsOk r
    got h places =
        let none = of_due h.cost_due in
        let means = none_means (reckon m start log) a b none in
        let near = h.near.below in
        let same = one_least laws h.near.least (answer.least none) in
        let not_far : m.rank (row.costs b) ≢ FAR = λ e. omega (arith, laws.far_rank, near, same, e) in
        let none_of_route : route_refusal m (reckon m start log) row a b ≡ None = grind (arith, nat_tests) in
        (answer.routed none_of_route).enough (omega (arith, places, reckoned_stations m start log))

    pub route_when_due : RouteGiven m start log a b (length old) r
    route_when_due = (given, λ places h. got h places)
