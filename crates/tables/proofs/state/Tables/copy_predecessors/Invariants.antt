-- The places before `station` hold predecessors of the row, and the others what they held.
use Rattle.std.proofs.Common.{◌≡◌, ◌++◌, map, drop}
use Rattle.std.specs.List.{range_with_len}
use Rattle.std.specs.Option.{unwrap_or}
use Rattle.tables.specs.View.{row_of}
use Rattle.tables.proofs.state.Tables.copy_predecessors.Given as goal

abbrev pub invariant-loop-station : goal.invariant-loop-station
invariant-loop-station g l =
    let m = g.K.Cost.kind in
    l.predecessor-items ≡ map (λ b. unwrap_or ((row_of m l.self l.source).predecessors b) 65535) (range_with_len 0 l.station) ++ drop l.station l.initial.predecessor-items
