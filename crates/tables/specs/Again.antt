-- The same, done again.
--
--   Held t t'    t' shows the ledger of t, and its list and tables hold what those of t do
use Rattle.std.specs.Prelude.{◌≡◌}
use Rattle.tables.specs.View.{ledger_of}
use Rattle.tables.specs.declared.state.Tables.{Tables}

pub record Held {K : Type 0} (t t' : Tables K) : Type 0 where
  pub ledger : ledger_of t' ≡ ledger_of t
  pub list : t'.list.now ≡ t.list.now
  pub costs : t'.costs.now ≡ t.costs.now
  pub predecessors : t'.predecessors.now ≡ t.predecessors.now
