-- The text has the lines of the stations below `to`.
use Rattle.std.proofs.Common.{◌≡◌, ◌++◌, string_bytes}
use Rattle.std.specs.List.{flat_map, range_with_len}
use Rattle.plan.specs.View.{view}
use Rattle.listing.specs.Lines.{pair_lines}
use Rattle.listing.proofs.table.push_row.Given as goal

abbrev pub invariant-loop-to : goal.invariant-loop-to
invariant-loop-to g l =
    let m = g.K.Cost.kind in
    string_bytes l.text ≡ string_bytes l.initial.text ++ flat_map (pair_lines m (view m l.plan) l.from) (range_with_len 0 l.to)
