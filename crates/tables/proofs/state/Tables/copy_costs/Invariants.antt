-- The places before `station` hold costs of the row, and the others what they held.
use Rattle.std.proofs.Common.{◌≡◌, ◌++◌, map, drop}
use Rattle.std.specs.List.{range_with_len}
use Rattle.tables.specs.View.{row_of}
use Rattle.tables.proofs.state.Tables.copy_costs.Given as goal

abbrev pub invariant-loop-station : goal.invariant-loop-station
invariant-loop-station g l =
    let m = g.K.Cost.kind in
    l.cost-items ≡ map (λ b. m.rank ((row_of m l.self l.source).costs b)) (range_with_len 0 l.station) ++ drop l.station l.initial.cost-items
