-- Rows by hand, as sheets of a table.
--
--   Sheet, sheet       a row of a source, and which stations fail in it, each beside the cause
--   sheets             the rows of both campuses, and the supplier's
--   computed_failing, failing_by_hand    what fails by the definitions, and by hand
--   Alike n row other  two rows of n stations agree: in the ranks of costs, and in predecessors
use Rattle.std.specs.Prelude.{◌≡◌, ℕ, ◌<◌, List, [], ◌∷◌, map}
use Rattle.cost.specs.Kind.{Same}
use Rattle.cost.specs.Sum.{sum_kind}
use Rattle.cost.specs.declared.sum.Sum.{Sum}
use Rattle.routes.specs.Failures.{failures}
use Rattle.routes.specs.Network.{Network}
use Rattle.routes.specs.Row.{Row}
use Rattle.campuses.specs.Campuses.{campus_h, campus_j, row_h, row_h_of_4, supplied, row_j, row_j_of_1, row_j_of_2}

pub record Sheet : Type 0 where
  pub network : Network Sum
  pub source : ℕ
  pub row : Row Sum
  pub failing : List (ℕ × ℕ)

abbrev pub sheet : Network Sum → ℕ → Row Sum → List (ℕ × ℕ) → Sheet
sheet network source row failing = record { network = network; source = source; row = row; failing = failing }

abbrev pub sheets : List Sheet
sheets =
    sheet campus_h 0 row_h []
    ∷ sheet campus_h 4 row_h_of_4 []
    ∷ sheet campus_h 0 supplied ((3, 5) ∷ [])
    ∷ sheet campus_j 0 row_j []
    ∷ sheet campus_j 1 row_j_of_1 []
    ∷ sheet campus_j 2 row_j_of_2 []
    ∷ []

abbrev pub computed_failing : List (List (ℕ × ℕ))
computed_failing = map (λ s. failures sum_kind s.network s.source s.row) sheets

abbrev pub failing_by_hand : List (List (ℕ × ℕ))
failing_by_hand = map (λ (s : Sheet). s.failing) sheets

pub record Alike (n : ℕ) (row other : Row Sum) : Type 0 where
  pub costs : (B : ℕ) → B < n → Same sum_kind (row.costs B) (other.costs B)
  pub predecessors : (B : ℕ) → B < n → row.predecessors B ≡ other.predecessors B
