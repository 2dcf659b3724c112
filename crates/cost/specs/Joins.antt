-- The cost of several costs in a row.
--
--   joins m cs    the join of the costs cs from first to last, beginning with zero
use Rattle.std.specs.Prelude.{List}
use Rattle.std.specs.List.{fold}
use Rattle.cost.specs.Kind.{Kind}

abbrev pub joins : {K : Type 0} → Kind K → List K → K
joins m cs = fold m.joined m.zero cs
