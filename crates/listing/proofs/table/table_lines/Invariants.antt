-- The text has the lines of the rows below `from`.
use Rattle.std.proofs.Common.{◌≡◌, string_bytes}
use Rattle.std.specs.List.{flat_map, range_with_len}
use Rattle.plan.specs.View.{view}
use Rattle.listing.specs.Lines.{row_lines}
use Rattle.listing.proofs.table.table_lines.Given as goal

abbrev pub invariant-loop-from : goal.invariant-loop-from
invariant-loop-from g l =
    let m = g.K.Cost.kind in
    string_bytes l.text ≡ flat_map (row_lines m (view m l.plan)) (range_with_len 0 l.from)
