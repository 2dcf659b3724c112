-- The tables after their links changed.
--
--   Unworked m t t'     the rows that were worked in t are cleared in t'; all other rows, and the cells past them, are as they were
--   Relinked m g t t'   that, and t' has the ledger g over the same memory, whose links stand at the list's start; the places after them are as they were
use Rattle.std.specs.Prelude.{◌≡◌, ℕ, ◌*◌, drop, if◌then◌else◌}
use Rattle.cost.specs.Kind.{Kind}
use Rattle.planfile.specs.Fronted.{fronted}
use Rattle.ledger.specs.Ledger.{Ledger}
use Rattle.ledger.specs.View.{cleared}
use Rattle.tables.specs.declared.state.Tables.{Tables}
use Rattle.tables.specs.Lent.{SameMemory}
use Rattle.tables.specs.View.{ledger_of, row_of}

module _ {K : Type 0} (m : Kind K) where
  pub record Unworked (t t' : Tables K) : Type 0 where
    pub rows : (a : ℕ) → row_of m t' a ≡ (if (ledger_of t).marked a then cleared m else row_of m t a)
    pub costs_past : drop (t.stations * t.stations) t'.costs.now ≡ drop (t.stations * t.stations) t.costs.now
    pub predecessors_past : drop (t.stations * t.stations) t'.predecessors.now ≡ drop (t.stations * t.stations) t.predecessors.now

  pub record Relinked (g : Ledger K) (t t' : Tables K) : Type 0 where
    pub memory : SameMemory t t'
    pub ledger : ledger_of t' ≡ g
    pub list : t'.list.now ≡ fronted g.links t.list.now
    pub rows : Unworked t t'
