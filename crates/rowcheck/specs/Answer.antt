-- What the test of a supplier's row answers.
--
--   row_refusal n a xs ys    the refusal before any station is tested: more stations than a plan has, a source that is none of them,
--                            or lists of costs xs and predecessors ys that do not both have a place for each
--   Names m net A row r      r accepts, or refuses with a station that fails and a cause by which it does
use Rattle.std.specs.Prelude.{ℕ, not, ◌&&◌, ◌==◌, List, length, Ok, Err, Result, None, Option, nat_le, nat_lt}
use Rattle.cost.specs.Kind.{Kind}
use Rattle.refusal.specs.Code.{bare}
use Rattle.refusal.specs.First.{refused_if}
use Rattle.refusal.specs.declared.Code.{Code}
use Rattle.refusal.specs.declared.Refusal.{Refusal}
use Rattle.refusal.specs.declared.Refusal.TheVariants as refusal
use Rattle.routes.specs.Network.{Network}
use Rattle.routes.specs.Row.{Row}
use Rattle.ledger.specs.CheckAnswer.{Named}

abbrev pub row_refusal : {K : Type 0} → ℕ → ℕ → List K → List ℕ → Option Code
row_refusal n a xs ys =
    refused_if (nat_lt 256 n) (bare 1)
    (refused_if (nat_le n a) (bare 3)
    (refused_if (not (length xs == n && length ys == n)) (bare 13) None))

module _ {K : Type 0} (m : Kind K) (net : Network K) (A : ℕ) (row : Row K) where
  abbrev pub Names : Result (Unit {0}) Refusal → Type 0
  Names (Ok x) = Unit {0}
  Names (Err (refusal.Row f)) = Named m net A row f
  Names (Err _) = ⊥
