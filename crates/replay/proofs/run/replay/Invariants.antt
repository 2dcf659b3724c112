use Rattle.replay.specs.Moment.{moment}
use Rattle.replay.proofs.Underway.{Underway}
use Rattle.replay.proofs.run.replay.Given as goal

abbrev pub invariant-loop-index : goal.invariant-loop-index
invariant-loop-index g l =
    Underway g.K.Cost.kind l.entries l.initial.answers l.answers l.initial.pool l.pool
    (moment l.initial.plan (g.Q.Queue.meaning l.initial.queue)) (moment l.plan (g.Q.Queue.meaning l.queue)) l.index l.used
