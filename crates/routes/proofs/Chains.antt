-- Predecessors from which fitting links lead make routes.
use Rattle.std.proofs.Common.{◌≡◌, ℕ, zero, suc, ◌<◌, ◌≤◌, List, [], ◌∷◌, ◌++◌, ◌==◌, ⊎_elim, None, Some, cond, length, nat_lt, refl, subst, sym, ap, ◌∙◌, arith}
use Rattle.std.proofs.lemmas.Bool.{cases_eq}
use Rattle.std.proofs.lemmas.Bool.Decides.{nat_tests}
use Rattle.std.proofs.lemmas.List.{length_push}
use Rattle.std.proofs.lemmas.List.Sums.{sum_by_push}
use Rattle.std.specs.List.{Contains}
use Rattle.cost.specs.Kind.{Kind, Same, Below}
use Rattle.cost.specs.Laws.{Laws}
use Rattle.cost.specs.declared.link.Link.{Link}
use Rattle.queue.specs.Drained.{times}
use Rattle.routes.proofs.Counting.{counted_few, at_most_counted}
use Rattle.routes.proofs.Costs.{same_left, far_before, at_most_far}
use Rattle.routes.specs.Chain.{Chain, source as begin, after, Route}
use Rattle.routes.specs.Network.{Network}
use Rattle.routes.specs.Row.{Row}
use Rattle.routes.specs.Walk.{Walk, stay, on, stations_of}

-- a link leads from station p to v, on which p's cost becomes v's
pub record FittingLink {K : Type 0} (m : Kind K) (net : Network K) (row : Row K) (p v : ℕ) : Type 0 where
  pub station : p < net.stations
  pub link : Link K
  pub laid : Contains net.links link
  pub starts : link.from ≡ p
  pub ends : link.to ≡ v
  pub fits : Same m (m.joined (row.costs p) link.cost) (row.costs v)

-- the source costs zero and has no predecessor, a fitting link leads to each station from the predecessor that it has, and each below FAR but
-- the source has one
pub record Linked {K : Type 0} (m : Kind K) (net : Network K) (A : ℕ) (row : Row K) : Type 0 where
  pub zero_at_source : Same m (row.costs A) m.zero
  pub none_at_source : row.predecessors A ≡ None
  pub by_link : (v p : ℕ) → v < net.stations → row.predecessors v ≡ Some p → FittingLink m net row p v
  pub some : (v : ℕ) → v < net.stations → (v ≡ A → ⊥) → Below m (row.costs v) m.far → (p : ℕ) × (row.predecessors v ≡ Some p)

-- a walk of the cost that the row says of B, with its stations
record Walked {K : Type 0} (m : Kind K) (net : Network K) (A : ℕ) (row : Row K) (B : ℕ) (xs : List ℕ) : Type 0 where
  cost : K
  walk : Walk m net A B cost
  costs_that : Same m cost (row.costs B)
  passes : stations_of walk ≡ xs

module _ {K : Type 0} {row : Row K} {A : ℕ} where
  -- a station on a chain has a chain of its own, no longer
  part : {B : ℕ} {xs : List ℕ} → Chain row A B xs → (s : ℕ) → 1 ≤ times s xs → (zs : List ℕ) × Chain row A s zs × (length zs ≤ length xs)
  part begin s on_it = let same : A ≡ s = grind (arith, nat_tests) in (A ∷ [], subst (λ (z : ℕ). Chain row A z (A ∷ [])) same begin, omega arith)
  part (after {B = B} {xs = xs} chain is) s on_it =
      ⊎_elim
      (λ (e : B ≡ s). (xs ++ B ∷ [], subst (λ (z : ℕ). Chain row A z (xs ++ B ∷ [])) e (after chain is), omega arith))
      (λ (ne : B ≡ s → ⊥).
      let one_more = sum_by_push (λ x. cond (x == s) 1 0) xs B in
      let rest = part chain s (grind (arith, nat_tests)) in
      (rest.0, rest.1, omega (arith, rest.2, length_push xs B)))
      (cases_eq B s)

  -- where the source has no predecessor, a station has one chain
  module _ (none : row.predecessors A ≡ None) where
    pub one_chain : {B C : ℕ} {xs ys : List ℕ} → B ≡ C → Chain row A B xs → Chain row A C ys → xs ≡ ys
    one_chain e begin begin = refl
    one_chain e begin (after chain is) = absurd (cc (none, ap row.predecessors e, is))
    one_chain e (after chain is) begin = absurd (cc (none, ap row.predecessors e, is))
    one_chain e (after {p = p} {B = B} {xs = xs} chain is) (after {p = q} {B = C} {xs = ys} other is_other) =
        let same : p ≡ q = cc (is, is_other, ap row.predecessors e) in
        let before = one_chain same chain other in
        λ i. before i ++ e i ∷ []

    -- so none stands on a chain twice
    once : {B : ℕ} {xs : List ℕ} → Chain row A B xs → (s : ℕ) → times s xs ≤ 1
    once begin s = grind (arith, nat_tests)
    once (after {p = p} {B = B} {xs = xs} chain is) s =
        let one_more = sum_by_push (λ x. cond (x == s) 1 0) xs B in
        let so_far = once chain s in
        let none_before : B ≡ s → 1 ≤ times s xs → ⊥ =
        λ same on_it.
        let by = part chain s on_it in
        omega (arith, by.2, length_push xs B, ap length (one_chain same (after chain is) by.1)) in
        grind (arith, nat_tests, cases_eq B s)

module _ {K : Type 0} {m : Kind K} (laws : Laws m) {net : Network K} {A : ℕ} {row : Row K} (source : A < net.stations) (linked : Linked m net A row) where
  -- a chain is a walk
  walked_on : {xs : List ℕ} (l : Link K) → Walked m net A row l.from xs → Contains net.links l → Same m (m.joined (row.costs l.from) l.cost) (row.costs l.to)
      → Walked m net A row l.to (xs ++ l.to ∷ [])
  walked_on l so_far laid fits =
      record {
        cost = m.joined so_far.cost l.cost;
        walk = on so_far.walk laid;
        costs_that = same_left laws so_far.cost (row.costs l.from) l.cost so_far.costs_that ∙ fits;
        passes = ap (λ (z : List ℕ). z ++ l.to ∷ []) so_far.passes;
      }

  walked : {B : ℕ} {xs : List ℕ} → B < net.stations → Chain row A B xs → Walked m net A row B xs
  walked within begin = record { cost = m.zero; walk = stay; costs_that = sym linked.zero_at_source; passes = refl }
  walked {B} within (after {p = p} {xs = xs} chain is) =
      let f = linked.by_link B p within is in
      let before = subst (λ (z : ℕ). Walked m net A row z xs) (sym f.starts) (walked f.station chain) in
      let fits_from = subst (λ (z : ℕ). Same m (m.joined (row.costs z) f.link.cost) (row.costs B)) (sym f.starts) f.fits in
      let fits = subst (λ (z : ℕ). Same m (m.joined (row.costs f.link.from) f.link.cost) (row.costs z)) (sym f.ends) fits_from in
      subst (λ (z : ℕ). Walked m net A row z (xs ++ z ∷ [])) f.ends (walked_on f.link before f.laid fits)

  -- on it stand stations alone
  there : {B : ℕ} {xs : List ℕ} → B < net.stations → Chain row A B xs → (s : ℕ) → 1 ≤ times s xs → s < net.stations
  there within begin s on_it = grind (arith, nat_tests)
  there {B} within (after {p = p} {xs = xs} chain is) s on_it =
      let before = there (linked.by_link B p within is).station chain s in
      let one_more = sum_by_push (λ x. cond (x == s) 1 0) xs B in
      grind (arith, nat_tests)

  -- it is a route
  pub route : {B : ℕ} {xs : List ℕ} → B < net.stations → Chain row A B xs → Route m net A row B xs
  route {B} {xs} within chain =
      let walk = walked within chain in
      let at_most = once linked.none_at_source chain in
      record {
        cost = walk.cost;
        walk = walk.walk;
        costs_that = walk.costs_that;
        passes = walk.passes;
        none_twice = record { at_most_once = at_most };
        few =
            let among = at_most_counted (λ s. nat_lt s net.stations) xs net.stations (λ s. let one = at_most s in let t = there within chain s in grind (arith, nat_tests))
            (λ s late. let t = there within chain s in grind arith) in
            omega (arith, among, counted_few (λ s. nat_lt s net.stations) net.stations);
      }

  -- where some height rises from each predecessor to the station after it, one leads to each station below FAR
  module _ (height : ℕ → ℕ) (rises : (v p : ℕ) → v < net.stations → row.predecessors v ≡ Some p → height p < height v) where
    reach_below : (b B : ℕ) → B < net.stations → height B < b → Below m (row.costs B) m.far → (xs : List ℕ) × Chain row A B xs
    reach_below zero B within low near = absurd (omega arith)
    reach_below (suc b) B within low near =
        ⊎_elim
        (λ e. subst (λ (z : ℕ). (xs : List ℕ) × Chain row A z xs) (sym e) (A ∷ [], begin))
        (λ other.
        let given = linked.some B within other near in
        let f = linked.by_link B given.0 within given.1 in
        let far = far_before laws (row.costs given.0) f.link.cost in
        let most = at_most_far laws (row.costs given.0) in
        let fits = f.fits in
        let near_before : Below m (row.costs given.0) m.far = grind (arith, cases_eq (m.rank (row.costs given.0)) (m.rank m.far)) in
        let so_far = reach_below b given.0 f.station (omega (arith, rises B given.0 within given.1)) near_before in
        (so_far.0 ++ B ∷ [], after so_far.1 given.1))
        (cases_eq B A)

    pub reach : {B : ℕ} → B < net.stations → Below m (row.costs B) m.far → (xs : List ℕ) × Chain row A B xs × Route m net A row B xs
    reach {B} within near = let by = reach_below (suc (height B)) B within (omega arith) near in (by.0, by.1, route within by.1)
