-- The way back by the predecessors of a right row is the chain that leads to a station.
use Rattle.std.proofs.Common.{◌≡◌, ℕ, zero, suc, ◌<◌, ◌≤◌, List, [], ◌∷◌, ◌++◌, length, Option, None, inl, refl, subst, sym, ap, ◌∙◌, arith}
use Rattle.std.proofs.lemmas.List.{length_push}
use Rattle.std.specs.Option.{option_map_or}
use Rattle.cost.specs.Kind.{Kind, Below}
use Rattle.cost.specs.Laws.{Laws, Strict}
use Rattle.routes.proofs.RightChains.{strict_reach}
use Rattle.routes.specs.Chain.{Chain, source, after, Route}
use Rattle.routes.specs.Network.{Network, Between, NoneFree}
use Rattle.routes.specs.Row.{Row, Right}
use Rattle.ledger.specs.Traced.{traced}

-- a chain that is not longer than the way back is that way
module _ {K : Type 0} {row : Row K} {A : ℕ} where
  some_station : {B : ℕ} {xs : List ℕ} → Chain row A B xs → 1 ≤ length xs
  some_station source = omega arith
  some_station (after {B = B} {xs = xs} chain is) = omega (arith, length_push xs B)

  trace : row.predecessors A ≡ None → (steps : ℕ) {B : ℕ} {xs : List ℕ} → Chain row A B xs → length xs ≤ suc steps → traced row steps B ≡ xs
  trace none zero source few = refl
  trace none zero (after {B = B} {xs = xs} chain is) few = absurd (omega (arith, length_push xs B, some_station chain))
  trace none (suc steps) source few = ap (λ (o : Option ℕ). option_map_or (traced row steps) o [] ++ A ∷ []) none
  trace none (suc steps) (after {B = B} {xs = xs} chain is) few =
      ap (λ (o : Option ℕ). option_map_or (traced row steps) o [] ++ B ∷ []) is
      ∙ ap (λ (ys : List ℕ). ys ++ B ∷ []) (trace none steps chain (omega (arith, length_push xs B)))

-- so a route comes back from each station below FAR
pub traced_route : {K : Type 0} {m : Kind K} → Laws m → Strict m → {net : Network K} {A B : ℕ} {row : Row K} → Between net → NoneFree m net
    → A < net.stations → B < net.stations → Right m net A row → Below m (row.costs B) m.far
    → Chain row A B (traced row net.stations B) × Route m net A row B (traced row net.stations B)
traced_route {m = m} laws strict {net} {A} {B} {row} between none_free source_there there right near =
    let by = strict_reach laws strict between none_free source_there there right near in
    let same = trace ((right.missing A source_there).1 (inl refl)) net.stations by.1 (omega (arith, by.2.few)) in
    subst (λ (xs : List ℕ). Chain row A B xs × Route m net A row B xs) (sym same) (by.1, by.2)
