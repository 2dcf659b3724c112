use Rattle.std.proofs.Common.{rules}
use Rattle.tables.proofs.Unmarked.{unmarked_ledger}
use Rattle.tables.proofs.state.Tables.unwork.Goals as goal

pub returns-clause-ledger : goal.returns-clause-ledger
returns-clause-ledger g c =
    let same = c.clear_worked.ensures in
    unmarked_ledger _ _ _ _ _ _ _ same.stations same.count same.list (search rules)
