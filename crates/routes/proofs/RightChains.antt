-- In a right row fitting links lead from the predecessors.
use Rattle.std.proofs.Common.{◌≡◌, ℕ, ◌<◌, List, inl, inr, ⊎_elim, Some, refl, arith}
use Rattle.cost.specs.Kind.{Kind, Same, Below}
use Rattle.cost.specs.Laws.{Laws, Strict, ZeroLeast}
use Rattle.routes.proofs.Chains.{FittingLink, Linked, one_chain, route, reach}
use Rattle.routes.proofs.Checked.{given_or_missing, joins_from_below, fitting_last}
use Rattle.routes.proofs.Costs.{zero_least_from_strict}
use Rattle.routes.proofs.JoinedWalks.{link_of_last, last_ends}
use Rattle.routes.specs.Chain.{Chain, Route}
use Rattle.routes.specs.Network.{Network, Between, NoneFree}
use Rattle.routes.specs.Row.{Row, Right}
use Rattle.routes.specs.Walk.{stay}

module _ {K : Type 0} {m : Kind K} (laws : Laws m) (zero_least : ZeroLeast m) {net : Network K} {A : ℕ} {row : Row K}
    (between : Between net) (source : A < net.stations) (right : Right m net A row) where
  -- a fitting link leads to each station from its predecessor
  by_link : (v p : ℕ) → v < net.stations → row.predecessors v ≡ Some p → FittingLink m net row p v
  by_link v p within is =
      let last = right.given v p within is in
      let by = link_of_last last in
      record { station = last_ends between source last; link = by.link; laid = by.laid; starts = by.starts; ends = by.ends; fits = fitting_last laws between right by }

  linked : Linked m net A row
  linked =
      record {
        zero_at_source = omega (arith, (right.least A source).none_less stay, zero_least (row.costs A));
        none_at_source = (right.missing A source).1 (inl refl);
        by_link = by_link;
        some = λ v within other near. ⊎_elim
            (λ none. absurd (⊎_elim other (λ far. omega arith) ((right.missing v within).0 none)))
            (λ given. given)
            (given_or_missing (row.predecessors v));
      }

  -- so their chains are routes
  pub right_route : {B : ℕ} {xs : List ℕ} → B < net.stations → Chain row A B xs → Route m net A row B xs
  right_route = route laws source linked

  -- and to each station below FAR, where some height rises from each to the station after it
  pub right_reach : (height : ℕ → ℕ) → ((v p : ℕ) → v < net.stations → row.predecessors v ≡ Some p → height p < height v)
      → {B : ℕ} → B < net.stations → Below m (row.costs B) m.far → (xs : List ℕ) × Chain row A B xs × Route m net A row B xs
  right_reach = reach laws source linked

-- a station has one chain
pub right_one : {K : Type 0} {m : Kind K} {net : Network K} {A B : ℕ} {row : Row K} {xs ys : List ℕ} → A < net.stations → Right m net A row → Chain row A B xs → Chain row A B ys → xs ≡ ys
right_one {A = A} source right = one_chain ((right.missing A source).1 (inl refl)) refl

-- as costs do, if no link is free
pub strict_reach : {K : Type 0} {m : Kind K} {net : Network K} {A B : ℕ} {row : Row K} → Laws m → Strict m → Between net → NoneFree m net → A < net.stations → B < net.stations
    → Right m net A row → Below m (row.costs B) m.far → (xs : List ℕ) × Chain row A B xs × Route m net A row B xs
strict_reach {m = m} {row = row} laws strict between none_free source within right =
    let zero_least = zero_least_from_strict laws strict in
    right_reach laws zero_least between source right (λ v. m.rank (row.costs v))
    (λ v p there is.
    let f = by_link laws zero_least between source right v p there is in
    let near : Same m (row.costs v) m.far → ⊥ = λ far. let none = (right.missing v there).1 (inr far) in cc in
    joins_from_below laws strict (row.costs p) (row.costs v) f.link.cost f.fits near (none_free f.link f.laid))
    within

-- what the contract wants
pub ruleset by_right = (right_route, right_one, strict_reach)
