-- The places from `place` on hold the end of the way.
use Rattle.tables.specs.View.{row_of}
use Rattle.tables.proofs.Tracing.{Written}
use Rattle.tables.proofs.state.Tables.write_back.Given as goal

abbrev pub invariant-loop-place : goal.invariant-loop-place
invariant-loop-place g l = Written (row_of g.K.Cost.kind l.self l.row) l.self.stations l.station l.count l.place l.at l.initial.list l.list
