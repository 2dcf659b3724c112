-- A row that was worked is marked, and every other row stays.
use Rattle.std.specs.Prelude.{◌≡◌, ◌≢◌, ℕ, ◌<◌, true, false, length, take, slice_index_or}
use Rattle.std.proofs.Common.{◌∙◌, ap}
use Rattle.cost.specs.Kind.{Kind}
use Rattle.ledger.specs.After.{after_work}
use Rattle.tables.specs.declared.state.Tables.{Tables}
use Rattle.tables.specs.View.{ledger_of, row_of}
use Rattle.tables.specs.Working.{RowFilled}
use Rattle.tables.proofs.Cells.{set_is_written}
use Rattle.tables.proofs.Keeping.{other_cells}

module _ {K : Type 0} {a : ℕ} {t t' : Tables K} (filled : RowFilled a t t') where
  pub filled_ledger : a < length t.worked → ledger_of t' ≡ after_work (ledger_of t) a
  filled_ledger there =
      let marks : (ledger_of t').marked ≡ (after_work (ledger_of t) a).marked = ap (λ w b. slice_index_or w b false) filled.worked ∙ set_is_written t.worked false true a there in
      ap (λ n. record { stations = n; places = length t'.list.now; links = take t'.count t'.list.now; marked = (ledger_of t').marked }) filled.stations
      ∙ ap (λ k. record { stations = t.stations; places = length t'.list.now; links = take k t'.list.now; marked = (ledger_of t').marked }) filled.count
      ∙ ap (λ ls. record { stations = t.stations; places = length ls; links = take t.count ls; marked = (ledger_of t').marked }) filled.list
      ∙ ap (λ f. record { stations = t.stations; places = length t.list.now; links = take t.count t.list.now; marked = f }) marks

  pub filled_others : (m : Kind K) (b : ℕ) → (b ≢ a) → row_of m t' b ≡ row_of m t b
  filled_others m b apart = other_cells m filled.stations filled.costs filled.predecessors apart
