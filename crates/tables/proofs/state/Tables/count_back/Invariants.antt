-- The stations from `at` on are counted.
use Rattle.tables.specs.View.{row_of}
use Rattle.tables.proofs.Tracing.{Counted}
use Rattle.tables.proofs.state.Tables.count_back.Given as goal

abbrev pub invariant-loop : goal.invariant-loop
invariant-loop g l = Counted (row_of g.K.Cost.kind l.self l.row) l.self.stations l.station l.counter l.count l.at
