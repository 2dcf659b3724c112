-- Which refusal a call meets: the first that fits.
--
--   no_station g a                     a is no station
--   no_link_cost m c                   c is zero or FAR
--   lay_refusal m g a b c              laying a link from a to b at cost c
--   lift_refusal g a b                 lifting the link from a to b
--   work_refusal g a                   working row a
--   cost_refusal g a b                 asking for the cost from a to b; and for the route, which has two refusals more
--   check_refusal g a xs ys            testing a supplier's row of source a, which has one refusal more
use Rattle.std.specs.Prelude.{ℕ, Bool, not, ◌||◌, ◌&&◌, ◌==◌, List, length, None, Option, nat_le}
use Rattle.cost.specs.Kind.{Kind, FAR}
use Rattle.refusal.specs.Code.{bare}
use Rattle.refusal.specs.First.{refused_if}
use Rattle.refusal.specs.declared.Code.{Code}
use Rattle.ledger.specs.Ledger.{Ledger, has_link}

module _ {K : Type 0} where
  abbrev pub no_station : Ledger K → ℕ → Bool
  no_station g a = nat_le g.stations a

  abbrev pub no_link_cost : Kind K → K → Bool
  no_link_cost m c = m.rank c == m.rank m.zero || m.rank c == FAR

  abbrev pub lay_refusal : Kind K → Ledger K → ℕ → ℕ → K → Option Code
  lay_refusal m g a b c =
      refused_if (no_station g a || no_station g b) (bare 3)
      (refused_if (a == b) (bare 4)
      (refused_if (no_link_cost m c) (bare 5)
      (refused_if (has_link g a b) (bare 6)
      (refused_if (nat_le g.places (length g.links)) (bare 7) None))))

  abbrev pub lift_refusal : Ledger K → ℕ → ℕ → Option Code
  lift_refusal g a b =
      refused_if (no_station g a || no_station g b) (bare 3)
      (refused_if (not (has_link g a b)) (bare 8) None)

  abbrev pub work_refusal : Ledger K → ℕ → Option Code
  work_refusal g a = refused_if (no_station g a) (bare 3) (refused_if (g.marked a) (bare 9) None)

  abbrev pub cost_refusal : Ledger K → ℕ → ℕ → Option Code
  cost_refusal g a b =
      refused_if (no_station g a || no_station g b) (bare 3)
      (refused_if (not (g.marked a)) (bare 10) None)

  abbrev pub check_refusal : Ledger K → ℕ → List K → List ℕ → Option Code
  check_refusal g a xs ys =
      refused_if (no_station g a) (bare 3)
      (refused_if (not (length xs == g.stations && length ys == g.stations)) (bare 13) None)
