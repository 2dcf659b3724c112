-- What is right of a row, link by link.
use Rattle.std.proofs.Common.{ℕ, ◌<◌, ⊎_elim, arith}
use Rattle.std.specs.List.{Contains}
use Rattle.std.proofs.lemmas.Bool.{cases_eq}
use Rattle.cost.specs.Kind.{Kind, Same, AtMost}
use Rattle.cost.specs.Laws.{Laws}
use Rattle.cost.specs.declared.link.Link.{Link}
use Rattle.routes.specs.Network.{Network, Between}
use Rattle.routes.specs.Walk.{stay, on}
use Rattle.routes.specs.Row.{Row, Right}
use Rattle.routes.proofs.Costs.{same_left, at_most_far, far_before}

module _ {K : Type 0} {m : Kind K} (laws : Laws m) {net : Network K} (between : Between net) {A : ℕ} {row : Row K} (right : Right m net A row) where
  -- the source's cost is at most zero
  pub at_zero : A < net.stations → AtMost m (row.costs A) m.zero
  at_zero there = (right.least A there).none_less stay

  -- a link offers nothing better
  pub no_better : (l : Link K) → Contains net.links l → AtMost m (row.costs l.to) (m.joined (row.costs l.from) l.cost)
  no_better l laid =
      let ends = between l laid in
      ⊎_elim
      (λ (far : Same m (row.costs l.from) m.far).
      let f = far_before laws (row.costs l.from) l.cost far in
      let most = at_most_far laws (row.costs l.to) in
      omega arith)
      (λ (near : Same m (row.costs l.from) m.far → ⊥).
      let c = (right.least l.from ends.0).one_costs_it near in
      let le = (right.least l.to ends.1).none_less (on c.walk laid) in
      let same = same_left laws c.cost (row.costs l.from) l.cost c.same in
      omega arith)
      (cases_eq (m.rank (row.costs l.from)) (m.rank m.far))
