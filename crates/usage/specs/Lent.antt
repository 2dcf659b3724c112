-- Lent memory, when its plan is gone.
--
--   RowHeld m formed bs a xs ys   row a stands in the tables of costs xs and of predecessors ys, and is right on the links of the file bs
use Rattle.std.specs.Prelude.{ℕ, List, Option}
use Rattle.cost.specs.Kind.{Kind}
use Rattle.routes.specs.Row.{Right}
use Rattle.planfile.specs.Reading.{stations_of}
use Rattle.tables.specs.View.{row_in}
use Rattle.listing.specs.Report.{file_network}

abbrev pub RowHeld : {K : Type 0} → Kind K → (ℕ → Option K) → List ℕ → ℕ → List K → List ℕ → Type 0
RowHeld m formed bs a xs ys = Right m (file_network m formed bs) a (row_in m (stations_of bs) xs ys a)
