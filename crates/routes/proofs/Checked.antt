-- No station of a row fails exactly when the row is right.
use Rattle.std.proofs.Common.{◌≡◌, ℕ, ◌<◌, ◌⊎◌, inl, inr, ⊎_elim, Option, Some, None, refl, subst, sym, ◌∙◌, arith}
use Rattle.std.proofs.lemmas.Bool.{cases_eq}
use Rattle.std.specs.List.{Contains}
use Rattle.cost.specs.Kind.{Kind, Same, AtMost, Below}
use Rattle.cost.specs.Laws.{Laws, Strict, ZeroLeast}
use Rattle.cost.specs.declared.link.Link.{Link}
use Rattle.routes.proofs.Chains.{FittingLink, Linked, reach}
use Rattle.routes.proofs.Costs.{far_before, at_most_far}
use Rattle.routes.proofs.JoinedWalks.{LastLink, link_of_last, last_ends, last_same, goes_on_to}
use Rattle.routes.proofs.RightRows.{no_better}
use Rattle.routes.proofs.Tested.{Holds, passes_from_holds, holds_from_passes}
use Rattle.routes.specs.Fails.{NoneFails}
use Rattle.routes.specs.Network.{Network, Between, OnePerPair, NoneFree}
use Rattle.routes.specs.Row.{Row, Right}
use Rattle.routes.specs.Walk.{Walk, stay, on, SomeWalk, LastBefore}

-- a predecessor is given or missing
pub given_or_missing : (o : Option ℕ) → (o ≡ None) ⊎ ((p : ℕ) × (o ≡ Some p))
given_or_missing None = inl refl
given_or_missing (Some p) = inr (p, refl)

-- a cost is below one that it joins to with a cost other than zero, if that is below FAR
pub joins_from_below : {K : Type 0} {m : Kind K} → Laws m → Strict m → (a b c : K) → Same m (m.joined a c) b → (Same m b m.far → ⊥) → (Same m c m.zero → ⊥) → Below m a b
joins_from_below {K} {m} laws strict a b c same near free =
    omega (arith, strict.join_goes_above a c (λ far. near (omega (arith, far_before laws a c far))) free)

module _ {K : Type 0} {m : Kind K} (laws : Laws m) {net : Network K} {A : ℕ} {row : Row K} where
  -- in a right row
  module _ (between : Between net) (right : Right m net A row) where
    -- a link offers nothing better to where it ends
    at_most_into : (l : Link K) (B : ℕ) → Contains net.links l → l.to ≡ B → AtMost m (row.costs B) (m.joined (row.costs l.from) l.cost)
    at_most_into l B laid ends = subst (λ (z : ℕ). AtMost m (row.costs z) (m.joined (row.costs l.from) l.cost)) ends (no_better laws between right l laid)

    -- a predecessor's cost, joined with the link by which a walk of least cost goes on from it, is the cost of the station after it
    pub fitting_last : {B p : ℕ} (by : LastLink m net A p B (row.costs B)) → Same m (m.joined (row.costs p) by.link.cost) (row.costs B)
    fitting_last {B} {p} by =
        let runs = (between by.link by.laid).0 in
        let no_less = (right.least p (subst (λ (z : ℕ). z < net.stations) by.starts runs)).none_less by.walk in
        let over = subst (λ (z : ℕ). AtMost m (row.costs B) (m.joined (row.costs z) by.link.cost)) by.starts (at_most_into by.link B by.laid by.ends) in
        omega (arith, by.same, laws.join_keeps_right (row.costs p) by.cost by.link.cost no_less)

    -- where two stations have one link, that is the link between them
    fitting_link : OnePerPair net → (B p : ℕ) → LastBefore m net A p B (row.costs B) → (l : Link K) → Contains net.links l → l.from ≡ p → l.to ≡ B
        → Same m (m.joined (row.costs l.from) l.cost) (row.costs B)
    fitting_link one B p last l laid starts ends =
        let by = link_of_last last in
        let same : by.link ≡ l = one by.link l by.laid laid (by.starts ∙ sym starts) (by.ends ∙ sym ends) in
        let fits = subst (λ (z : Link K). Same m (m.joined (row.costs p) z.cost) (row.costs B)) same (fitting_last by) in
        subst (λ (z : ℕ). Same m (m.joined (row.costs z) l.cost) (row.costs B)) (sym starts) fits

    -- each station passes its tests
    right_holds : ZeroLeast m → OnePerPair net → A < net.stations → (B : ℕ) → B < net.stations → Holds m net A row B
    right_holds zero_least one source B within =
        let least = right.least B within in
        let missing = right.missing B within in
        record {
          zero_at_source = λ e. let walk = subst (λ (z : ℕ). Walk m net A z m.zero) (sym e) stay in omega (arith, least.none_less walk, zero_least (row.costs B));
          none_at_source = λ e. missing.1 (inl e);
          none_at_far = λ other. (
            λ none. ⊎_elim (λ e. absurd (other e)) (λ far. omega (arith, laws.far_rank)) (missing.0 none),
            λ far. missing.1 (inr (omega (arith, laws.far_rank))),
          );
          station = λ p is. last_ends between source (right.given B p within is);
          linked = λ p is. let by = link_of_last (right.given B p within is) in record { link = by.link; laid = by.laid; starts = by.starts; ends = by.ends };
          fits = λ p is. fitting_link one B p (right.given B p within is);
          least = λ l laid ends. at_most_into l B laid ends;
        }

  -- in a row whose stations pass their tests
  module _ (between : Between net) (source : A < net.stations) (holds : (B : ℕ) → B < net.stations → Holds m net A row B) where
    -- no walk costs less than the row says
    none_less : {B : ℕ} {c : K} → Walk m net A B c → AtMost m (row.costs B) c
    none_less stay = omega (arith, (holds A source).zero_at_source refl)
    none_less (on {c = c} {l = l} walk laid) =
        let over = (holds l.to (between l laid).1).least l laid refl in
        omega (arith, laws.join_keeps_right (row.costs l.from) c l.cost (none_less walk))

    module _ (strict : Strict m) (none_free : NoneFree m net) where
      -- a fitting link leads to each station from its predecessor
      by_link : (B p : ℕ) → B < net.stations → row.predecessors B ≡ Some p → FittingLink m net row p B
      by_link B p within is =
          let h = holds B within in
          let by = h.linked p is in
          let fits = subst (λ (z : ℕ). Same m (m.joined (row.costs z) by.link.cost) (row.costs B)) by.starts (h.fits p is by.link by.laid by.starts by.ends) in
          record { station = h.station p is; link = by.link; laid = by.laid; starts = by.starts; ends = by.ends; fits = fits }

      linked : Linked m net A row
      linked =
          record {
            zero_at_source = (holds A source).zero_at_source refl;
            none_at_source = (holds A source).none_at_source refl;
            by_link = by_link;
            some = λ B within other near. ⊎_elim
                (λ none. absurd (omega (arith, ((holds B within).none_at_far other).0 none, laws.far_rank)))
                (λ given. given)
                (given_or_missing (row.predecessors B));
          }

      -- from below, since no link is free
      rises : (B p : ℕ) → B < net.stations → row.predecessors B ≡ Some p → m.rank (row.costs p) < m.rank (row.costs B)
      rises B p within is =
          let h = holds B within in
          let f = by_link B p within is in
          let other : B ≡ A → ⊥ = λ e. let none = h.none_at_source e in cc in
          let near : Same m (row.costs B) m.far → ⊥ = λ far. let none = (h.none_at_far other).1 (omega (arith, laws.far_rank)) in cc in
          joins_from_below laws strict (row.costs p) (row.costs B) f.link.cost f.fits near (none_free f.link f.laid)

      -- so each cost below FAR is that of a walk
      walked : (B : ℕ) → B < net.stations → (Same m (row.costs B) m.far → ⊥) → SomeWalk m net A B (row.costs B)
      walked B within near =
          let by = (reach laws source linked (λ s. m.rank (row.costs s)) rises within (omega (arith, at_most_far laws (row.costs B)))).2 in
          record { cost = by.cost; walk = by.walk; same = by.costs_that }

      holds_right : Right m net A row
      holds_right =
          record {
            least = λ B within. record { none_less = none_less; one_costs_it = walked B within };
            missing = λ B within.
                let h = holds B within in (
                  λ none. ⊎_elim inl (λ other. inr (omega (arith, (h.none_at_far other).0 none, laws.far_rank))) (cases_eq B A),
                  ⊎_elim h.none_at_source (λ far. ⊎_elim h.none_at_source (λ other. (h.none_at_far other).1 (omega (arith, laws.far_rank))) (cases_eq B A)),
                );
            given = λ B p within is.
                let f = by_link B p within is in
                let walk = walked p f.station (λ far. omega (arith, rises B p within is, at_most_far laws (row.costs B))) in
                last_same (goes_on_to laws f.link walk f.laid f.starts f.ends) f.fits;
          }

-- the two theorems
pub right_passes : {K : Type 0} {m : Kind K} {net : Network K} {A : ℕ} {row : Row K} → Laws m → ZeroLeast m → Between net → OnePerPair net → A < net.stations → Right m net A row
    → NoneFails m net A row
right_passes {m = m} {net = net} {A = A} {row = row} laws zero_least between one source right =
    record { passes = λ B cause within. passes_from_holds m net A row B (right_holds laws between right zero_least one source B within) cause }

pub passes_right : {K : Type 0} {m : Kind K} {net : Network K} {A : ℕ} {row : Row K} → Laws m → Strict m → Between net → NoneFree m net → A < net.stations → NoneFails m net A row
    → Right m net A row
passes_right {m = m} {net = net} {A = A} {row = row} laws strict between none_free source none =
    holds_right laws between source (λ B within. holds_from_passes m net A row B (λ cause. none.passes B cause within)) strict none_free

-- what the contract wants
pub ruleset checked = (right_passes, passes_right)
