-- Answers that are right by one ledger, put beside each other.
use Rattle.std.proofs.Common.{◌≡◌, ◌≢◌, ℕ, ◌<◌, ◌≤◌, List, ◌++◌, length, take, drop, Option, Some, None, Result, Ok, Err, IsOk, IfErr, nat_lt}
use Rattle.std.proofs.Common.{slice_index_or, refl, subst, sym, ap, ◌∙◌, arith}
use Rattle.std.proofs.lemmas.Bool.Decides.{nat_tests}
use Rattle.std.proofs.Math.Seq.{take-append_seam, drop-append_seam}
use Rattle.cost.specs.Kind.{Kind, FAR, Same, Below}
use Rattle.cost.specs.Laws.{Laws}
use Rattle.queue.specs.Meaning.{Meaning, Nobody}
use Rattle.refusal.specs.Code.{code_of}
use Rattle.refusal.specs.declared.Code.{Code}
use Rattle.refusal.specs.declared.Refusal.{Refusal}
use Rattle.routes.proofs.Counting.{counted_alike}
use Rattle.routes.proofs.OneLeast.{one_least, one_row}
use Rattle.routes.specs.Row.{Row}
use Rattle.routes.specs.Runs.{below_far}
use Rattle.routes.specs.declared.method.Method.{Method}
use Rattle.routes.specs.declared.method.Method.TheVariants.{Plain, Reuse}
use Rattle.ledger.specs.Ledger.{Ledger, network}
use Rattle.ledger.specs.Refusals.{cost_refusal, work_refusal, check_refusal}
use Rattle.ledger.specs.View.{given}
use Rattle.ledger.specs.Agreeing.{Goes}
use Rattle.ledger.specs.Answers.{CostAnswer, WorkAnswer}
use Rattle.ledger.specs.RouteAnswer.{route_refusal, Routed, RouteAnswer}
use Rattle.ledger.specs.CheckAnswer.{CheckAnswer}

-- a cost is answered for a station alone
there_if : {K : Type 0} (g : Ledger K) (a b : ℕ) → None ≡ cost_refusal g a b → b < g.stations
there_if g a b accepted = grind (arith, nat_tests)

module _ {K : Type 0} {m : Kind K} {g : Ledger K} {a b : ℕ} where
  -- a cost
  pub cost_same : Laws m → {row other : Row K} {c d : K} → CostAnswer m g row a b (Ok c) → CostAnswer m g other a b (Ok d) → Same m c d
  cost_same laws cost same_cost = one_least laws cost.least.1 same_cost.least.1

  -- a route
  module _ {row : Row K} {old new : List ℕ} where
    none_of : (o : Option Code) → route_refusal m g row a b ≡ o → {count : ℕ} → RouteAnswer m g row a b old new (Ok count) → route_refusal m g row a b ≡ None
    none_of None is answer = is
    none_of (Some code) is answer = absurd (cc (answer.refused code is))

    routed : {count : ℕ} → RouteAnswer m g row a b old new (Ok count) → Routed m g row a b old new (Ok count)
    routed answer = answer.routed (none_of (route_refusal m g row a b) refl answer)

    pub route_goes : {c : K} {count : ℕ} → CostAnswer m g row a b (Ok c) → RouteAnswer m g row a b old new (Ok count)
        → Goes m (network g) a b c (take count new)
    route_goes {c} {count} cost answer =
        let r = routed answer in
        let front : take count new ≡ r.stations =
        ap (take count) r.written.1 ∙ ap (λ k. take k (r.stations ++ drop count old)) r.written.0 ∙ take-append_seam r.stations (drop count old) in
        subst (λ (xs : List ℕ). Goes m (network g) a b c xs) (sym front)
        (record {
          cost = r.route.cost;
          walk = r.route.walk;
          costs_that = subst (λ (z : K). Same m r.route.cost z) (sym cost.least.0) r.route.costs_that;
          passes = r.route.passes;
          none_twice = r.route.none_twice;
          few = r.route.few;
        })

    pub route_past : {count : ℕ} → RouteAnswer m g row a b old new (Ok count) → drop count new ≡ drop count old
    route_past {count} answer =
        let r = routed answer in
        ap (drop count) r.written.1 ∙ ap (λ k. drop k (r.stations ++ drop count old)) r.written.0 ∙ drop-append_seam r.stations (drop count old)

    pub route_refused : {why : Refusal} → RouteAnswer m g row a b old new (Err why) → new ≡ old
    route_refused answer = answer.kept

    pub route_enough : Laws m → {c : K} {r : Result ℕ Refusal} → CostAnswer m g row a b (Ok c) → RouteAnswer m g row a b old new r → Below m c m.far
        → g.stations ≤ length old → IsOk r
    route_enough laws {c} cost answer near long =
        let below : m.rank (row.costs b) < FAR = rw (← cost.least.0) (omega (arith, near, laws.far_rank)) in
        let asked : None ≡ cost_refusal g a b = cost.refusal in
        let none : route_refusal m g row a b ≡ None = grind (arith, nat_tests) in
        (answer.routed none).enough long

module _ {K T : Type 0} {m : Kind K} {g : Ledger K} {a : ℕ} where
  -- a supplier's row
  module _ {costs : List K} {predecessors : List ℕ} where
    pub check_passes : {rows : ℕ → Row K} {method : Method} {x : T} {queue : Meaning} {r : Result T Refusal}
        → WorkAnswer m g rows a method (Ok x) (given m costs predecessors) queue → length costs ≡ g.stations → length predecessors ≡ g.stations
        → CheckAnswer m g a costs predecessors r → IsOk r
    check_passes work long_costs long_predecessors answer =
        let asked : None ≡ work_refusal g a = work.refusal in
        let none : check_refusal g a costs predecessors ≡ None = grind (arith, nat_tests) in
        answer.accepted.1 (none, work.worked.right)

    pub check_costs : Laws m → {row : Row K} {b : ℕ} {x : T} {c : K} → CheckAnswer m g a costs predecessors (Ok x)
        → CostAnswer m g row a b (Ok c) → Same m c (slice_index_or costs b m.far)
    check_costs laws {b = b} answer cost = one_least laws cost.least.1 ((answer.accepted.0 refl).1.least b (there_if g a b cost.refusal))

    pub check_tells : (r : Result T Refusal) → CheckAnswer m g a costs predecessors r → check_refusal g a costs predecessors ≡ None
        → IfErr r (λ why. (code_of why).number ≡ 14)
    check_tells (Ok x) answer none = tt
    check_tells (Err why) answer none = ap (λ (code : Code). code.number) (answer.faulty none).code

  -- a work
  module _ {rows : ℕ → Row K} {method : Method} {x : T} {row : Row K} {queue : Meaning} (work : WorkAnswer m g rows a method (Ok x) row queue) where
    pub work_costs : Laws m → {other : Row K} {b : ℕ} {c : K} → CostAnswer m g other a b (Ok c) → Same m c (row.costs b)
    work_costs laws {b = b} cost = one_least laws cost.least.1 (work.worked.right.least b (there_if g a b cost.refusal))

    pub work_ends : Nobody queue
    work_ends = work.worked.nobody

    pub work_takes : 1 ≤ queue.taken
    work_takes = work.worked.some_taken

  module _ {rows others : ℕ → Row K} {method : Method} {x y : T} {row other : Row K} {queue after : Meaning} (laws : Laws m)
      (plain : WorkAnswer m g rows a Plain (Ok x) row queue) (work : WorkAnswer m g others a method (Ok y) other after) where
    below_alike : below_far m g.stations row ≡ below_far m g.stations other
    below_alike =
        counted_alike _ _ g.stations
        (λ v there. ap (λ (z : ℕ). nat_lt z FAR) (one_row laws plain.worked.right work.worked.right there))

    pub work_takes_most : after.taken ≤ queue.taken
    work_takes_most = omega (arith, below_alike, work.worked.at_most, plain.worked.all (λ e. absurd (cc e)))

    pub work_takes_all : method ≢ Reuse → after.taken ≡ queue.taken
    work_takes_all other_method = omega (arith, below_alike, work.worked.all other_method, plain.worked.all (λ e. absurd (cc e)))

-- what the contracts want
pub ruleset costs_are_one = cost_same

pub ruleset routes_cost_that = (route_goes, route_enough, route_past, route_refused)

pub ruleset checks_pass_works = (check_passes, check_costs, check_tells)

pub ruleset works_alike = (work_costs, work_ends, work_takes, work_takes_most, work_takes_all)
