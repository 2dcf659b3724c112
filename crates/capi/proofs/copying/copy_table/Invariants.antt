-- The rows before `source` stand at the start of both lists.
use Rattle.std.proofs.Common.{◌≡◌, ◌++◌, ◌*◌, drop}
use Rattle.std.specs.List.{flat_map, range_with_len}
use Rattle.plan.specs.View.{view}
use Rattle.tables.specs.Copied.{befores, numbers}
use Rattle.capi.proofs.copying.copy_table.Given as goal

abbrev pub invariant-loop-source : goal.invariant-loop-source
invariant-loop-source g l =
    let m = g.K.Cost.kind in
    let v = view m l.plan in
    let n = v.ledger.stations in record {
      costs : l.costs ≡ flat_map (λ a. numbers m n (v.rows a)) (range_with_len 0 l.source) ++ drop (l.source * n) l.initial.costs;
      predecessors : l.predecessors ≡ flat_map (λ a. befores n (v.rows a)) (range_with_len 0 l.source) ++ drop (l.source * n) l.initial.predecessors;
    }
