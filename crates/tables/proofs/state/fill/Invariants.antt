-- The places up to `place` are filled.
use Rattle.std.proofs.Common.{◌≤◌}
use Rattle.tables.specs.Filled.{Filled}
use Rattle.tables.proofs.state.fill.Given as goal

abbrev pub invariant-loop-place : goal.invariant-loop-place
invariant-loop-place g l = record {
  on : l.from ≤ l.place;
  so_far : Filled l.from l.place l.value l.initial.cells l.cells;
}
