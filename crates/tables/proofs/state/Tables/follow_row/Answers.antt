-- One station more has been offered what the row offers it, and that row is as it was.
use Rattle.std.proofs.Common.{◌∙◌, rules}
use Rattle.tables.proofs.Along.{one_more}
use Rattle.tables.proofs.Keeping.{kept_row, kept_twice}
use Rattle.tables.proofs.state.Tables.follow_row.Goals as goal

pub loop-station-preserved : goal.loop-station-preserved
loop-station-preserved g c =
    let m = g.K.Cost.kind in
    let so_far = c.loop-station.invariant in
    let step = c.follow_cell.ensures in record {
      kept = kept_twice so_far.kept step.kept;
      same_stations = step.queue ∙ so_far.same_stations;
      so_far = one_more m c.args.taken.label _ _ (search rules) (kept_row m so_far.kept c.requires.apart) so_far.so_far step.state;
    }
