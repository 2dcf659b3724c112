use Rattle.plan.specs.View.{view}
use Rattle.listing.specs.Lines.{pair_lines}
use Rattle.listing.proofs.Ranges.{text_more}
use Rattle.listing.proofs.table.push_row.Goals as goal

pub loop-to-preserved : goal.loop-to-preserved
loop-to-preserved g c =
    let m = g.K.Cost.kind in
    text_more (pair_lines m (view m c.args.plan.now) c.args.from) c.loop-to.to _ _ _ c.loop-to.invariant c.in_ok-push_pair.ensures.value
