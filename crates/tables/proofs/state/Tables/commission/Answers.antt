use Rattle.std.proofs.Common.{refl}
use Rattle.tables.proofs.Clearing.{filled_row}
use Rattle.tables.proofs.Unmarked.{unmarked_ledger}
use Rattle.tables.proofs.state.Tables.commission.Goals as goal

pub returns-clause-ledger : goal.returns-clause-ledger
returns-clause-ledger g c = unmarked_ledger _ _ _ _ _ _ _ refl refl refl c.none_worked-self.ensures.off

pub returns-clause-cleared : goal.returns-clause-cleared
returns-clause-cleared g c a below =
    filled_row g.K.Cost.kind c.args.stations (rw c.far.ensures.value at c.fill.ensures.filled) c.fill-2.ensures.filled a below
