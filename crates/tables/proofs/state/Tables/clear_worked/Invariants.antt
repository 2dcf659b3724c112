-- The worked rows before `row` are cleared.
use Rattle.tables.proofs.Unworking.{Unworking}
use Rattle.tables.proofs.state.Tables.clear_worked.Given as goal

abbrev pub invariant-loop-row : goal.invariant-loop-row
invariant-loop-row g l = Unworking g.K.Cost.kind l.row l.initial.self l.self
