use Rattle.std.proofs.Common.{rules}
use Rattle.tables.proofs.Cells.{row_begins}
use Rattle.tables.proofs.state.Tables.begin_row.Goals as goal

pub returns-clause-begun : goal.returns-clause-begun
returns-clause-begun g c =
    let t = c.clear_row.new.self in
    row_begins g.K.Cost.kind t.stations c.args.source c.place-place.result t.costs.now _ t.predecessors.now c.clear_row.ensures.cleared (search rules) t.costs_fit c.place-place.ensures.value (rw c.zero.ensures.value at c.set.ensures)
