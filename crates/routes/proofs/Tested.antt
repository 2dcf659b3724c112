-- What it says of a station that it fails by no cause.
use Rattle.std.proofs.Common.{◌≡◌, ℕ, ◌<◌, ◌≤◌, Option, Some, None, Bool, true, false, cond, not, ◌&&◌, ◌||◌, ◌==◌, nat_lt, is_some, is_none, refl, arith, ◌↔◌}
use Rattle.std.proofs.lemmas.Bool.{false_from_ne_true}
use Rattle.std.proofs.lemmas.Bool.Decides.{nat_tests}
use Rattle.std.specs.List.{Contains, list_any}
use Rattle.cost.specs.Kind.{Kind, FAR, Same}
use Rattle.cost.specs.declared.link.Link.{Link}
use Rattle.routes.proofs.Members.{in_from_any, any_from_in}
use Rattle.routes.specs.Fails.{fails, unlinked, loose, undercut, rank_at, rank_over, wrong_source, wrong_reach}
use Rattle.routes.specs.Network.{Network, leads}
use Rattle.routes.specs.Row.{Row}

-- one link from p to B
pub record Laid {K : Type 0} (net : Network K) (p B : ℕ) : Type 0 where
  pub link : Link K
  pub laid : Contains net.links link
  pub starts : link.from ≡ p
  pub ends : link.to ≡ B

-- the facts that the five tests of station B decide
pub record Holds {K : Type 0} (m : Kind K) (net : Network K) (A : ℕ) (row : Row K) (B : ℕ) : Type 0 where
  pub zero_at_source : B ≡ A → Same m (row.costs B) m.zero
  pub none_at_source : B ≡ A → row.predecessors B ≡ None
  pub none_at_far : (B ≡ A → ⊥) → (row.predecessors B ≡ None) ↔ (m.rank (row.costs B) ≡ FAR)
  pub station : (p : ℕ) → row.predecessors B ≡ Some p → p < net.stations
  pub linked : (p : ℕ) → row.predecessors B ≡ Some p → Laid net p B
  pub fits : (p : ℕ) → row.predecessors B ≡ Some p → (l : Link K) → Contains net.links l → l.from ≡ p → l.to ≡ B
      → Same m (m.joined (row.costs l.from) l.cost) (row.costs B)
  pub least : (l : Link K) → Contains net.links l → l.to ≡ B → m.rank (row.costs B) ≤ m.rank (m.joined (row.costs l.from) l.cost)

-- five tests fail by no number exactly when none of them is true
by_none : (a b c d e : Bool) → a ≡ false → b ≡ false → c ≡ false → d ≡ false → e ≡ false → (k : ℕ)
    → ((k == 1 && a) || (k == 2 && b) || (k == 3 && c) || (k == 4 && d) || (k == 5 && e)) ≡ false
by_none a b c d e p q r s t k = grind (arith, nat_tests)

by_one : (a b c d e : Bool) → ((k : ℕ) → ((k == 1 && a) || (k == 2 && b) || (k == 3 && c) || (k == 4 && d) || (k == 5 && e)) ≡ false)
    → (a ≡ false) × (b ≡ false) × (c ≡ false) × (d ≡ false) × (e ≡ false)
by_one a b c d e none = (
  let n = none 1 in grind (arith, nat_tests),
  let n = none 2 in grind (arith, nat_tests),
  let n = none 3 in grind (arith, nat_tests),
  let n = none 4 in grind (arith, nat_tests),
  let n = none 5 in grind (arith, nat_tests),
)

-- the tests of plain numbers
from_source_test : (B A r z : ℕ) (o : Option ℕ) → (B == A && (not (r == z) || is_some o)) ≡ false → B ≡ A → (r ≡ z) × (o ≡ None)
from_source_test B A r z None passes same = (grind (arith, nat_tests), refl)
from_source_test B A r z (Some p) passes same = absurd (grind (arith, nat_tests))

source_test : (B A r z : ℕ) (o : Option ℕ) → (B ≡ A → r ≡ z) → (B ≡ A → o ≡ None) → (B == A && (not (r == z) || is_some o)) ≡ false
source_test B A r z None same none = grind (arith, nat_tests)
source_test B A r z (Some p) same none = let other : B ≡ A → ⊥ = λ e. cc (none e) in grind (arith, nat_tests)

from_reach_test : (B A r : ℕ) (o : Option ℕ) → (not (B == A) && cond (r == FAR) (is_some o) (is_none o)) ≡ false → (B ≡ A → ⊥) → (o ≡ None) ↔ (r ≡ FAR)
from_reach_test B A r None passes other = (λ _. grind (arith, nat_tests), λ _. refl)
from_reach_test B A r (Some p) passes other = (λ e. absurd (cc e), λ far. absurd (grind (arith, nat_tests)))

reach_test : (B A r : ℕ) (o : Option ℕ) → ((B ≡ A → ⊥) → (o ≡ None) ↔ (r ≡ FAR)) → (not (B == A) && cond (r == FAR) (is_some o) (is_none o)) ≡ false
reach_test B A r None both = let far : (B ≡ A → ⊥) → r ≡ FAR = λ d. (both d).0 refl in grind (arith, nat_tests)
reach_test B A r (Some p) both = let near : (B ≡ A → ⊥) → r ≡ FAR → ⊥ = λ d far. cc ((both d).1 far) in grind (arith, nat_tests)

module _ {K : Type 0} (m : Kind K) (net : Network K) (A : ℕ) (row : Row K) (B : ℕ) where
  -- the tests of links
  from_unlinked : (o : Option ℕ) (p : ℕ) → unlinked m net A row B o ≡ false → o ≡ Some p → (p < net.stations) × Laid net p B
  from_unlinked None p passes is = absurd (cc is)
  from_unlinked (Some q) p passes is =
      let same : q ≡ p = cc is in
      let some : list_any (leads q B) net.links ≡ true = grind (arith, nat_tests) in
      let by = in_from_any (leads q B) net.links some in
      let by_it : (by.0.from == q && by.0.to == B) ≡ true = by.2 in
      (grind (arith, nat_tests), record { link = by.0; laid = by.1; starts = grind (arith, nat_tests); ends = grind (arith, nat_tests) })

  linked_test : (o : Option ℕ) → ((p : ℕ) → o ≡ Some p → p < net.stations) → ((p : ℕ) → o ≡ Some p → Laid net p B) → unlinked m net A row B o ≡ false
  linked_test None station linked = refl
  linked_test (Some p) station linked =
      let within = station p refl in
      let by = linked p refl in
      let by_it : (by.link.from == p && by.link.to == B) ≡ true = let s = by.starts in let e = by.ends in grind (arith, nat_tests) in
      let some = any_from_in (leads p B) net.links by.link by.laid by_it in
      grind (arith, nat_tests)

  from_loose : (o : Option ℕ) (p : ℕ) → loose m net A row B o ≡ false → o ≡ Some p → (l : Link K) → Contains net.links l → l.from ≡ p → l.to ≡ B
      → Same m (m.joined (row.costs l.from) l.cost) (row.costs B)
  from_loose None p passes is l laid starts ends = absurd (cc is)
  from_loose (Some q) p passes is l laid starts ends =
      let same : q ≡ p = cc is in
      let some = any_from_in (λ (l : Link K). leads q B l && not (rank_over m net A row l == rank_at m net A row B)) net.links l laid in
      grind (arith, nat_tests)

  fits_test : (o : Option ℕ)
      → ((p : ℕ) → o ≡ Some p → (l : Link K) → Contains net.links l → l.from ≡ p → l.to ≡ B → Same m (m.joined (row.costs l.from) l.cost) (row.costs B))
      → loose m net A row B o ≡ false
  fits_test None fits = refl
  fits_test (Some p) fits =
      false_from_ne_true _ (λ some.
      let by = in_from_any (λ (l : Link K). leads p B l && not (rank_over m net A row l == rank_at m net A row B)) net.links some in
      let by_it : ((by.0.from == p && by.0.to == B) && not (rank_over m net A row by.0 == rank_at m net A row B)) ≡ true = by.2 in
      let same = fits p refl by.0 by.1 in
      grind (arith, nat_tests))

  from_undercut : undercut m net A row B ≡ false → (l : Link K) → Contains net.links l → l.to ≡ B → m.rank (row.costs B) ≤ m.rank (m.joined (row.costs l.from) l.cost)
  from_undercut passes l laid ends =
      let some = any_from_in (λ (l : Link K). l.to == B && nat_lt (rank_over m net A row l) (rank_at m net A row B)) net.links l laid in
      grind (arith, nat_tests)

  least_test : ((l : Link K) → Contains net.links l → l.to ≡ B → m.rank (row.costs B) ≤ m.rank (m.joined (row.costs l.from) l.cost)) → undercut m net A row B ≡ false
  least_test least =
      false_from_ne_true _ (λ some.
      let by = in_from_any (λ (l : Link K). l.to == B && nat_lt (rank_over m net A row l) (rank_at m net A row B)) net.links some in
      let by_it : (by.0.to == B && nat_lt (rank_over m net A row by.0) (rank_at m net A row B)) ≡ true = by.2 in
      let most = least by.0 by.1 in
      grind (arith, nat_tests))

  -- so a station of which they hold fails by no cause, and the other way round
  pub passes_from_holds : Holds m net A row B → (cause : ℕ) → fails m net A row B cause ≡ false
  passes_from_holds h cause =
      by_none (wrong_source m net A row B) (wrong_reach m net A row B) (unlinked m net A row B (row.predecessors B)) (loose m net A row B (row.predecessors B)) (undercut m net A row B)
      (source_test B A (m.rank (row.costs B)) (m.rank m.zero) (row.predecessors B) h.zero_at_source h.none_at_source)
      (reach_test B A (m.rank (row.costs B)) (row.predecessors B) h.none_at_far)
      (linked_test (row.predecessors B) h.station h.linked)
      (fits_test (row.predecessors B) h.fits)
      (least_test h.least) cause

  pub holds_from_passes : ((cause : ℕ) → fails m net A row B cause ≡ false) → Holds m net A row B
  holds_from_passes passes =
      let tests = by_one (wrong_source m net A row B) (wrong_reach m net A row B) (unlinked m net A row B (row.predecessors B)) (loose m net A row B (row.predecessors B)) (undercut m net A row B) passes in
      record {
        zero_at_source = λ e. (from_source_test B A (m.rank (row.costs B)) (m.rank m.zero) (row.predecessors B) tests.0 e).0;
        none_at_source = λ e. (from_source_test B A (m.rank (row.costs B)) (m.rank m.zero) (row.predecessors B) tests.0 e).1;
        none_at_far = from_reach_test B A (m.rank (row.costs B)) (row.predecessors B) tests.1;
        station = λ p is. (from_unlinked (row.predecessors B) p tests.2 is).0;
        linked = λ p is. (from_unlinked (row.predecessors B) p tests.2 is).1;
        fits = λ p is. from_loose (row.predecessors B) p tests.3 is;
        least = from_undercut tests.4;
      }
