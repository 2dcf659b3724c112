-- A plan as its calls show it: its ledger, and the rows of its tables.
--
--   View K               the ledger, and the row of each source
--   cleared m            a row that holds FAR and no predecessor throughout
--   worked_rows v        those rows that are marked
--   task_of v a method   what row a is worked from: the laid links, and those rows that are marked
--   given m xs ys        a row from two lists; past their end, FAR and no predecessor
--   stored p             a predecessor from the number that is stored: 65,535 is none
use Rattle.std.specs.Prelude.{ℕ, ◌==◌, List, Option, Some, None, if◌then◌else◌, slice_index_or}
use Rattle.cost.specs.Kind.{Kind}
use Rattle.routes.specs.Row.{Row}
use Rattle.routes.specs.Task.{Task}
use Rattle.routes.specs.declared.method.Method.{Method}
use Rattle.ledger.specs.Ledger.{Ledger, network}

pub record View (K : Type 0) : Type 0 where
  pub ledger : Ledger K
  pub rows : ℕ → Row K

abbrev pub cleared : {K : Type 0} → Kind K → Row K
cleared m = record { costs = λ v. m.far; predecessors = λ v. None }

abbrev pub worked_rows : {K : Type 0} → View K → ℕ → Option (Row K)
worked_rows v t = if v.ledger.marked t then Some (v.rows t) else None

abbrev pub task_of : {K : Type 0} → View K → ℕ → Method → Task K
task_of v a method = record {
  network = network v.ledger;
  rows = worked_rows v;
  source = a;
  method = method;
}

abbrev pub stored : ℕ → Option ℕ
stored p = if p == 65535 then None else Some p

abbrev pub given : {K : Type 0} → Kind K → List K → List ℕ → Row K
given m xs ys = record { costs = λ v. slice_index_or xs v m.far; predecessors = λ v. stored (slice_index_or ys v 65535) }
