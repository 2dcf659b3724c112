use Rattle.capi.proofs.TableCells.{cell_told, cells_told, row_told}
use Rattle.capi.proofs.cells.tables_hold_least_costs.Goals as goal

pub returns-clause-cells : goal.returns-clause-cells
returns-clause-cells g c m net xs xs' ys ys' tabled a b row_there there = cells_told m net xs xs' ys ys' tabled a b row_there there

pub returns-clause-rows : goal.returns-clause-rows
returns-clause-rows g c m net rows xs xs' ys ys' bounds filled a b row_there there right = cell_told m net rows xs xs' ys ys' filled a b row_there there bounds right

pub returns-clause-row : goal.returns-clause-row
returns-clause-row g c m net row xs xs' ys ys' bounds copied a b row_there there right = row_told m net row xs xs' ys ys' bounds copied a b row_there there right
