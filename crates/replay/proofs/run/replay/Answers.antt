use Rattle.std.proofs.Common.{rules, ◌<◌, length, arith}
use borrow.Author.Rules.{scaled_Fits}
use Rattle.replay.proofs.Underway.{begins, goes_on, ends}
use Rattle.replay.proofs.run.replay.Goals as goal

pub loop-index-init : goal.loop-index-init
loop-index-init g c = search (rules, begins)

pub offset_bounds-answers-index : goal.offset_bounds-answers-index
offset_bounds-answers-index g c =
    let within : c.loop-index.index < length c.loop-index.answers = omega arith in
    scaled_Fits c.loop-index.index (length c.loop-index.answers) _ within (search rules)

pub loop-index-preserved : goal.loop-index-preserved
loop-index-preserved g c = search (rules, goes_on)

pub returns-clause-replayed : goal.returns-clause-replayed
returns-clause-replayed g c start log stands = ends c.loop-index.invariant (omega arith) stands

pub returns-clause-memory : goal.returns-clause-memory
returns-clause-memory g c = c.loop-index.invariant.memory
