-- Least costs.
--
--   Least m net A B c    no walk from A to B costs less than c, and one costs just that unless it is FAR
use Rattle.std.specs.Prelude.{ℕ}
use Rattle.cost.specs.Kind.{Kind, Same, AtMost}
use Rattle.routes.specs.Network.{Network}
use Rattle.routes.specs.Walk.{Walk, SomeWalk}

pub record Least {K : Type 0} (m : Kind K) (net : Network K) (A B : ℕ) (c : K) : Type 0 where
  pub none_less : {d : K} → Walk m net A B d → AtMost m c d
  pub one_costs_it : (Same m c m.far → ⊥) → SomeWalk m net A B c
