-- Rows that were worked by hand: tests by numbers tell that they are right, and that no other row is.
use Rattle.std.proofs.Common.{◌≡◌, ◌≢◌, ℕ, ◌<◌, Bool, true, false, not, ◌&&◌, ◌||◌, ◌==◌, nat_lt, ⊎_elim, inl, inr, List, Option, Some, None, refl, ap, subst, sym, ◌∙◌, arith, rules}
use Rattle.std.specs.List.{Contains, list_all, range_with_len}
use Rattle.std.specs.Option.{option_map_or}
use Rattle.std.proofs.lemmas.Bool.Decides.{nat_tests}
use Rattle.std.proofs.lemmas.List.Elements.{All-contains}
use Rattle.std.proofs.lemmas.List.Sums.{AllPass-from_list_all}
use Rattle.cost.specs.Kind.{Kind, FAR, Same}
use Rattle.cost.specs.Laws.{Laws, Strict}
use Rattle.cost.specs.Sum.{sum_kind}
use Rattle.cost.specs.declared.link.Link.{Link}
use Rattle.routes.specs.Network.{Network, Between, NoneFree}
use Rattle.routes.specs.Chain.{Chain, source, after}
use Rattle.routes.specs.Row.{Row, Right}
use Rattle.routes.specs.Fails.{fails, wrong_source, wrong_reach, unlinked, loose, undercut}
use Rattle.routes.specs.Methods.{tight}
use Rattle.routes.proofs.Checked.{passes_right, fitting_last, given_or_missing}
use Rattle.routes.proofs.Costs.{same_left}
use Rattle.routes.proofs.JoinedWalks.{LastLink, link_of_last}
use Rattle.routes.proofs.Members.{in_range}
use Rattle.routes.proofs.OneLeast.{one_row}

-- what is tested of all elements holds of each
pub each_passes : {X : Type 0} (p : X → Bool) (xs : List X) → list_all p xs ≡ true → (x : X) → Contains xs x → p x ≡ true
each_passes p xs all x has = All-contains (λ y. p y ≡ true) xs x (AllPass-from_list_all p xs all) has

-- sum shows the laws
pub sum_laws : Laws sum_kind
sum_laws = search rules

pub sum_strict : Strict sum_kind
sum_strict = search rules

-- links are as the theorems ask where tests of them pass
module _ {K : Type 0} (net : Network K) where
  abbrev pub runs_between : Link K → Bool
  runs_between l = nat_lt l.from net.stations && nat_lt l.to net.stations

  pub between_of : list_all runs_between net.links ≡ true → Between net
  between_of all l laid = let test = each_passes runs_between net.links all l laid in (grind (arith, nat_tests), grind (arith, nat_tests))

  abbrev pub is_paid : Kind K → Link K → Bool
  is_paid m l = not (m.rank l.cost == m.rank m.zero)

  pub none_free_of : (m : Kind K) → list_all (is_paid m) net.links ≡ true → NoneFree m net
  none_free_of m all l laid same = let test = each_passes (is_paid m) net.links all l laid in grind (arith, nat_tests)

-- one of five tests, by its number
of_five : (a b c d e : Bool) (ok : ℕ → Bool) (k : ℕ)
    → list_all (λ j. not ((j == 1 && a) || (j == 2 && b) || (j == 3 && c) || (j == 4 && d) || (j == 5 && e)) || ok j) (range_with_len 1 5) ≡ true
    → ((k == 1 && a) || (k == 2 && b) || (k == 3 && c) || (k == 4 && d) || (k == 5 && e)) ≡ true → ok k ≡ true
of_five a b c d e ok k all one = grind (arith, nat_tests)

module _ {K : Type 0} (m : Kind K) (net : Network K) (A : ℕ) (row : Row K) where
  -- a station fails only where it may
  abbrev pub fails_only : (ℕ → ℕ → Bool) → Bool
  fails_only may = list_all (λ B. list_all (λ cause. not (fails m net A row B cause) || may B cause) (range_with_len 1 5)) (range_with_len 0 net.stations)

  pub may_fail : (may : ℕ → ℕ → Bool) → fails_only may ≡ true → (B cause : ℕ) → B < net.stations → fails m net A row B cause ≡ true → may B cause ≡ true
  may_fail may only B cause there fail =
      of_five (wrong_source m net A row B) (wrong_reach m net A row B) (unlinked m net A row B (row.predecessors B))
      (loose m net A row B (row.predecessors B)) (undercut m net A row B) (may B) cause
      (each_passes (λ v. list_all (λ k. not (fails m net A row v k) || may v k) (range_with_len 1 5)) (range_with_len 0 net.stations) only B (in_range net.stations B there))
      fail

  -- none does
  abbrev pub passes_all : Bool
  passes_all = fails_only (λ B cause. false)

  -- the tight links are those from the predecessors
  abbrev pub one_tight : Bool
  one_tight = list_all (λ l. not (tight m row l) || option_map_or (λ p. p == l.from) (row.predecessors l.to) false) net.links

-- what is never so is not
never : (b : Bool) → (b ≡ true → false ≡ true) → b ≡ false
never true fail = sym (fail refl)
never false fail = refl

module _ {K : Type 0} {m : Kind K} (laws : Laws m) (strict : Strict m) {net : Network K} {A : ℕ} {row : Row K}
    (between : Between net) (none_free : NoneFree m net) (there : A < net.stations) where
  pub right_by_hand : passes_all m net A row ≡ true → Right m net A row
  right_by_hand all =
      passes_right laws strict between none_free there (record {
        passes = λ B cause within. never (fails m net A row B cause) (may_fail m net A row (λ v k. false) all B cause within);
      })

  -- another right row
  module _ {other : Row K} (right : Right m net A row) (too : Right m net A other) where
    pub same_cost : (B : ℕ) → B < net.stations → Same m (row.costs B) (other.costs B)
    same_cost B within = one_row laws right too within

    -- the link by which it reaches a station is tight in this one
    module _ (B p : ℕ) (within : B < net.stations) (by : LastLink m net A p B (other.costs B)) where
      first_there : p < net.stations
      first_there = subst (λ z. z < net.stations) by.starts (between by.link by.laid).0

      fits : Same m (m.joined (row.costs p) by.link.cost) (row.costs B)
      fits =
          same_left laws (row.costs p) (other.costs p) by.link.cost (same_cost p first_there)
          ∙ fitting_last laws between too by ∙ sym (same_cost B within)

      fits_not_far : (Same m (row.costs B) m.far → ⊥) → tight m row by.link ≡ true
      fits_not_far near =
          let joins : m.rank (m.joined (row.costs by.link.from) by.link.cost) ≡ m.rank (row.costs by.link.to) =
          subst (λ z. m.rank (m.joined (row.costs z) by.link.cost) ≡ m.rank (row.costs by.link.to)) (sym by.starts)
          (subst (λ z. m.rank (m.joined (row.costs p) by.link.cost) ≡ m.rank (row.costs z)) (sym by.ends) fits) in
          let ends : m.rank (row.costs by.link.to) ≡ m.rank (row.costs B) = ap (λ z. m.rank (row.costs z)) by.ends in
          let far : m.rank m.far ≡ FAR = laws.far_rank in
          let not_far : m.rank (row.costs by.link.to) ≢ FAR = λ is. near (sym ends ∙ is ∙ sym far) in
          grind (arith, nat_tests)

    module _ (one : one_tight m net A row ≡ true) where
      goes_back : (o : Option ℕ) (a p : ℕ) → a ≡ p → option_map_or (λ z. z == a) o false ≡ true → o ≡ Some p
      goes_back None a p same is = absurd (cc is)
      goes_back (Some z) a p same is = let e : z ≡ p = grind (arith, nat_tests) in ap Some e

      given_back : (B p : ℕ) → B < net.stations → other.predecessors B ≡ Some p → (p < net.stations) × (row.predecessors B ≡ Some p)
      given_back B p within is =
          let by = link_of_last (too.given B p within is) in
          let near : Same m (row.costs B) m.far → ⊥ =
          λ far. absurd (cc (is, (too.missing B within).1 (inr (sym (same_cost B within) ∙ far)))) in
          let tight_there = fits_not_far B p within by near in
          let test = each_passes (λ l. not (tight m row l) || option_map_or (λ z. z == l.from) (row.predecessors l.to) false) net.links one by.link by.laid in
          let back : option_map_or (λ z. z == by.link.from) (row.predecessors by.link.to) false ≡ true = grind (arith, nat_tests) in
          (first_there B p within by, subst (λ z. row.predecessors z ≡ Some p) by.ends (goes_back (row.predecessors by.link.to) by.link.from p by.starts back))

      pub same_predecessor : (B : ℕ) → B < net.stations → row.predecessors B ≡ other.predecessors B
      same_predecessor B within =
          ⊎_elim
          (λ (none : other.predecessors B ≡ None).
          ⊎_elim
          (λ is_source. (right.missing B within).1 (inl is_source) ∙ sym none)
          (λ far. (right.missing B within).1 (inr (same_cost B within ∙ far)) ∙ sym none)
          ((too.missing B within).0 none))
          (λ given. (given_back B given.0 within given.1).1 ∙ sym given.1)
          (given_or_missing (other.predecessors B))

      -- and so are its chains
      pub same_chain : {B : ℕ} {xs : List ℕ} → B < net.stations → Chain other A B xs → Chain row A B xs
      same_chain within source = source
      same_chain within (after {p = p} {B = B} chain is) =
          let back = given_back B p within is in
          after (same_chain back.0 chain) back.1
