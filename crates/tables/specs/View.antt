-- The tables as a plan shows them: its ledger, and its rows.
--
--   cell n xs d a v      the cell of row a and station v in a table of n × n cells; d where there is no such station
--   row_in m n xs ys a   row a of tables of n × n cells
--   row_of m t a         row a of the tables of a plan
--   ledger_of t          n, the places of the list, the laid links, and the worked rows
--   view_of m t          both
--   Same t t'            t and t' hold the same, over the same memory
use Rattle.std.specs.Prelude.{◌≡◌, ℕ, ◌+◌, ◌*◌, false, List, length, take, if◌then◌else◌, nat_lt, slice_index_or}
use Rattle.cost.specs.Kind.{Kind}
use Rattle.routes.specs.Row.{Row}
use Rattle.ledger.specs.Ledger.{Ledger}
use Rattle.ledger.specs.View.{View, stored}
use Rattle.tables.specs.declared.state.Tables.{Tables}
use Rattle.tables.specs.Lent.{SameMemory}

abbrev pub cell : {X : Type 0} → ℕ → List X → X → ℕ → ℕ → X
cell n xs d a v = if nat_lt v n then slice_index_or xs (a * n + v) d else d

abbrev pub row_in : {K : Type 0} → Kind K → ℕ → List K → List ℕ → ℕ → Row K
row_in m n xs ys a = record { costs = cell n xs m.far a; predecessors = λ v. stored (cell n ys 65535 a v) }

abbrev pub row_of : {K : Type 0} → Kind K → Tables K → ℕ → Row K
row_of m t a = row_in m t.stations t.costs.now t.predecessors.now a

abbrev pub ledger_of : {K : Type 0} → Tables K → Ledger K
ledger_of t = record {
  stations = t.stations;
  places = length t.list.now;
  links = take t.count t.list.now;
  marked = λ a. slice_index_or t.worked a false;
}

abbrev pub view_of : {K : Type 0} → Kind K → Tables K → View K
view_of m t = record { ledger = ledger_of t; rows = row_of m t }

pub record Same {K : Type 0} (t t' : Tables K) : Type 0 where
  pub memory : SameMemory t t'
  pub stations : t'.stations ≡ t.stations
  pub count : t'.count ≡ t.count
  pub worked : t'.worked ≡ t.worked
  pub list : t'.list.now ≡ t.list.now
  pub costs : t'.costs.now ≡ t.costs.now
  pub predecessors : t'.predecessors.now ≡ t.predecessors.now
