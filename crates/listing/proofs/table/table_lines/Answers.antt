use Rattle.std.proofs.Common.{[]}
use Rattle.plan.specs.View.{view}
use Rattle.listing.specs.Lines.{row_lines}
use Rattle.listing.proofs.Ranges.{text_more}
use Rattle.listing.proofs.table.table_lines.Goals as goal

pub loop-from-preserved : goal.loop-from-preserved
loop-from-preserved g c =
    let m = g.K.Cost.kind in
    text_more (row_lines m (view m c.args.plan.now)) c.loop-from.from [] _ _ c.loop-from.invariant c.in_ok-push_row.ensures.value
