-- A plan as its calls show it.
--
--   view m p    its ledger and rows, which its tables hold
use Rattle.cost.specs.Kind.{Kind}
use Rattle.ledger.specs.View.{View}
use Rattle.tables.specs.View.{view_of}
use Rattle.tables.specs.declared.state.Tables.{Tables}

abbrev pub view : {K : Type 0} → Kind K → Tables K → View K
view m p = view_of m p
