-- Of two least costs neither is below the other.
use Rattle.std.proofs.Common.{ℕ, ◌<◌, ⊎_elim, arith}
use Rattle.std.proofs.lemmas.Bool.{cases_eq}
use Rattle.cost.specs.Kind.{Kind, Same, AtMost}
use Rattle.cost.specs.Laws.{Laws}
use Rattle.routes.specs.Network.{Network}
use Rattle.routes.specs.Least.{Least}
use Rattle.routes.specs.Row.{Row, Right}
use Rattle.routes.proofs.Costs.{at_most_far}

module _ {K : Type 0} {m : Kind K} (laws : Laws m) {net : Network K} {A : ℕ} where
  at_most_other : {B : ℕ} {a b : K} → Least m net A B a → Least m net A B b → AtMost m a b
  at_most_other {B} {a} {b} least other =
      ⊎_elim
      (λ (far : Same m b m.far). let most = at_most_far laws a in omega arith)
      (λ (near : Same m b m.far → ⊥). let c = other.one_costs_it near in let le = least.none_less c.walk in let same = c.same in omega arith)
      (cases_eq (m.rank b) (m.rank m.far))

  pub one_least : {B : ℕ} {a b : K} → Least m net A B a → Least m net A B b → Same m a b
  one_least least other = omega (arith, at_most_other least other, at_most_other other least)

  pub one_row : {B : ℕ} {row other : Row K} → Right m net A row → Right m net A other → B < net.stations → Same m (row.costs B) (other.costs B)
  one_row {B} right same_right there = one_least (right.least B there) (same_right.least B there)

-- what the contract wants
pub ruleset one_cost = (one_least, one_row)
