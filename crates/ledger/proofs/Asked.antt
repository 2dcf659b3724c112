-- Asking for a cost or a route, and testing a supplier's row: the plan stays, and the answer is as it has to be.
use Rattle.std.proofs.Common.{◌≡◌, ℕ, ◌<◌, List, [], ◌∷◌, ◌++◌, Option, Some, None, true, Result, Ok, Err, IsOk, refl, subst, sym, ◌∙◌, arith}
use Rattle.std.proofs.lemmas.Bool.{true≢false}
use Rattle.std.proofs.lemmas.Bool.Decides.{nat_tests}
use Rattle.cost.specs.Kind.{Kind, FAR, Below}
use Rattle.cost.specs.Laws.{Laws, Strict}
use Rattle.refusal.specs.First.{told}
use Rattle.refusal.specs.declared.Code.{Code}
use Rattle.refusal.specs.declared.Refusal.{Refusal}
use Rattle.routes.proofs.Checked.{right_passes, passes_right}
use Rattle.routes.proofs.Costs.{zero_least_from_strict, at_most_far}
use Rattle.routes.specs.Chain.{Chain, Route}
use Rattle.routes.specs.Fails.{NoneFails}
use Rattle.routes.specs.Least.{Least}
use Rattle.routes.specs.Row.{Right}
use Rattle.ledger.specs.Ledger.{Ledger, network}
use Rattle.ledger.specs.Refusals.{cost_refusal, check_refusal}
use Rattle.ledger.specs.View.{View, given}
use Rattle.ledger.specs.Log.{Entry, cost, route, check, reckon}
use Rattle.ledger.specs.Holds.{Holds}
use Rattle.ledger.specs.Stands.{Stands}
use Rattle.ledger.specs.Answers.{CostAnswer}
use Rattle.ledger.specs.RouteAnswer.{route_refusal, RouteAnswer}
use Rattle.ledger.specs.CheckAnswer.{Faulty, CheckAnswer}
use Rattle.ledger.specs.Effects.{way, CostEffect, RouteEffect, CheckEffect}
use Rattle.ledger.proofs.FairKept.{one_per_pair}
use Rattle.ledger.proofs.Stood.{stands_still}
use Rattle.ledger.proofs.TracedChains.{traced_route}

-- a call is accepted where it tells of no refusal, and not where it tells of one
pub told_ok : {T : Type 0} (r : Result T Refusal) → told r ≡ None → IsOk r
told_ok (Ok x) none = refl
told_ok (Err why) none = absurd (cc none)

not_ok : {T : Type 0} (r : Result T Refusal) (code : Code) → told r ≡ Some code → IsOk r → ⊥
not_ok (Ok x) code some ok = cc some
not_ok (Err why) code some ok = cc ok

module _ {K : Type 0} {m : Kind K} {v : View K} (holds : Holds m v) (a b : ℕ) where
  -- a cost
  least_at : cost_refusal v.ledger a b ≡ None → Least m (network v.ledger) a b ((v.rows a).costs b)
  least_at accepted =
      let source : a < v.ledger.stations = grind (arith, nat_tests) in
      let there : b < v.ledger.stations = grind (arith, nat_tests) in
      (holds.marked a source (grind (arith, nat_tests))).least b there

  cost_least : (r : Result K Refusal) → CostEffect v a b r → CostAnswer m v.ledger (v.rows a) a b r
  cost_least (Ok c) effect = record { refusal = effect.refusal; least = (effect.value, rw effect.value (least_at (sym effect.refusal))) }
  cost_least (Err why) effect = record { refusal = effect.refusal; least = tt }

  -- a route
  module _ (laws : Laws m) (strict : Strict m) where
    way_back : route_refusal m v.ledger (v.rows a) a b ≡ None
        → Chain (v.rows a) a b (way v a b) × Route m (network v.ledger) a (v.rows a) b (way v a b)
    way_back accepted =
        let source : a < v.ledger.stations = grind (arith, nat_tests) in
        let there : b < v.ledger.stations = grind (arith, nat_tests) in
        let on : v.ledger.marked a ≡ true = grind (arith, nat_tests) in
        let not_far : m.rank ((v.rows a).costs b) ≡ FAR → ⊥ = λ e. grind (arith, nat_tests) in
        let near : Below m ((v.rows a).costs b) m.far = omega (arith, laws.far_rank, at_most_far laws ((v.rows a).costs b)) in
        traced_route laws strict holds.fair.between holds.fair.none_free source there (holds.marked a source on) near

    route_given : (old new : List ℕ) (r : Result ℕ Refusal) → RouteEffect m v a b old new r → RouteAnswer m v.ledger (v.rows a) a b old new r
    route_given old new r effect = record {
      refused = effect.refused;
      least = least_at;
      routed = λ accepted.
          let back = way_back accepted in
          record {
            stations = way v a b;
            chain = back.0;
            route = back.1;
            refusal = effect.short accepted;
            written = effect.written;
            enough = λ places. let few = back.1.few in told_ok r (effect.short accepted ∙ grind (arith, nat_tests));
          };
      kept = effect.kept;
    }

-- testing a row
module _ {K : Type 0} {m : Kind K} (laws : Laws m) (strict : Strict m) {v : View K} (holds : Holds m v) (a : ℕ) (costs : List K) (predecessors : List ℕ) where
  module _ (accepted : check_refusal v.ledger a costs predecessors ≡ None) where
    there : a < v.ledger.stations
    there = grind (arith, nat_tests)

    right_of : NoneFails m (network v.ledger) a (given m costs predecessors) → Right m (network v.ledger) a (given m costs predecessors)
    right_of = passes_right laws strict holds.fair.between holds.fair.none_free there

    none_faulty : Right m (network v.ledger) a (given m costs predecessors) → (why : Refusal) → Faulty m v.ledger a costs predecessors why → ⊥
    none_faulty right why f =
        let none = right_passes laws (zero_least_from_strict laws strict) holds.fair.between (one_per_pair (network v.ledger) holds.fair.pairs) there right in
        true≢false (sym f.named.fails ∙ none.passes f.failing.station f.failing.cause f.named.station)

  row_tested : {T : Type 0} (r : Result T Refusal) (o : Option Code) → check_refusal v.ledger a costs predecessors ≡ o
      → CheckEffect m v.ledger a costs predecessors r → CheckAnswer m v.ledger a costs predecessors r
  row_tested r (Some code) is effect = record {
    refused = effect.refused;
    accepted = (λ ok. absurd (not_ok r code (effect.refused code is) ok), λ h. absurd (cc (h.0, is)));
    faulty = λ none. absurd (cc (none, is));
  }
  row_tested (Ok x) None is effect =
      record { refused = effect.refused; accepted = (λ ok. (is, right_of is (effect.tested is)), λ h. refl); faulty = λ none. tt }
  row_tested (Err why) None is effect =
      record { refused = effect.refused; accepted = (λ ok. absurd (cc ok), λ h. absurd (none_faulty is h.1 why (effect.tested is))); faulty = effect.tested }

module _ {K : Type 0} {m : Kind K} {start : Ledger K} {log : List (Entry K)} {v : View K} (stands : Stands m start log v) where
  pub cost_stands : (a b : ℕ) → Stands m start (log ++ cost a b ∷ []) v
  cost_stands a b = stands_still stands (cost a b) refl refl

  pub route_stands : (a b places : ℕ) → Stands m start (log ++ route a b places ∷ []) v
  route_stands a b places = stands_still stands (route a b places) refl refl

  pub check_stands : (a : ℕ) (costs : List K) (predecessors : List ℕ) → Stands m start (log ++ check a costs predecessors ∷ []) v
  check_stands a costs predecessors = stands_still stands (check a costs predecessors) refl refl

  pub cost_answers : {a b : ℕ} {r : Result K Refusal} → CostEffect v a b r → CostAnswer m (reckon m start log) (v.rows a) a b r
  cost_answers {a} {b} {r} effect = subst (λ (g : Ledger K). CostAnswer m g (v.rows a) a b r) stands.reckoned (cost_least stands.holds a b r effect)

  module _ (laws : Laws m) (strict : Strict m) where
    pub route_answers : {a b : ℕ} {old new : List ℕ} {r : Result ℕ Refusal} → RouteEffect m v a b old new r
        → RouteAnswer m (reckon m start log) (v.rows a) a b old new r
    route_answers {a} {b} {old} {new} {r} effect =
        subst (λ (g : Ledger K). RouteAnswer m g (v.rows a) a b old new r) stands.reckoned
        (route_given stands.holds a b laws strict old new r effect)

    pub check_answers : {T : Type 0} {a : ℕ} {costs : List K} {predecessors : List ℕ} {r : Result T Refusal} → CheckEffect m v.ledger a costs predecessors r
        → CheckAnswer m (reckon m start log) a costs predecessors r
    check_answers {a = a} {costs = costs} {predecessors = predecessors} {r = r} effect =
        subst (λ (g : Ledger K). CheckAnswer m g a costs predecessors r) stands.reckoned
        (row_tested laws strict stands.holds a costs predecessors r (check_refusal v.ledger a costs predecessors) refl effect)

-- what the contracts want
pub ruleset cost_asked = (cost_stands, cost_answers)

pub ruleset route_asked = (route_stands, route_answers)

pub ruleset row_checked = (check_stands, check_answers)
