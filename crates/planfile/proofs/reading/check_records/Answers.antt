-- Each turn moves one record from those to be searched to those that the table tells of.
use Rattle.std.proofs.Common.{refl}
use Rattle.std.proofs.lemmas.Result.{err_from_is_err_and}
use Rattle.planfile.proofs.FirstFault.{fault_found, searched_more}
use Rattle.planfile.proofs.Seen.{none_seen}
use Rattle.planfile.proofs.reading.check_records.Goals as goal

pub loop-index-init : goal.loop-index-init
loop-index-init g c = record { of_plan = c.new-seen.ensures.stations; table = none_seen c.new-seen.result.seen c.new-seen.ensures.none; rest = refl }

pub loop-index-preserved : goal.loop-index-preserved
loop-index-preserved g c =
    let told = c.in_ok-read_link.ensures in
    searched_more c.loop-index.invariant c.requires.few c.loop-index-test.true c.from.ensures told.refused told.stations told.after

pub returns-in_err-read_link : goal.returns-in_err-read_link
returns-in_err-read_link g c =
    let p = err_from_is_err_and c.from_residual.result c.from_residual.ensures.1 in
    rw (p.1, p.2) (record { refused = fault_found c.loop-index.invariant c.requires.few c.loop-index-test.true c.from.ensures c.in_err-read_link.ensures.refused })
