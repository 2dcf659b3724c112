-- What has been taken so far is a run that was begun. No more are taken than there are stations.
use Rattle.std.proofs.Common.{◌≡◌, ◌-◌, length}
use Rattle.ledger.specs.View.{task_of}
use Rattle.tables.specs.View.{view_of}
use Rattle.tables.specs.Working.{state_of, Kept}
use Rattle.tables.proofs.Running.{Underway}
use Rattle.tables.proofs.state.Tables.run.Given as goal

abbrev pub invariant-loop-station : goal.invariant-loop-station
invariant-loop-station g l =
    let m = g.K.Cost.kind in record {
      firsts_there : length l.firsts ≡ 256;
      same_stations : (g.Q.Queue.meaning l.queue).stations ≡ l.initial.self.stations;
      kept : Kept l.source l.initial.self l.self;
      underway : Underway m (task_of (view_of m l.initial.self) l.source l.method) (state_of m l.self l.source l.firsts (g.Q.Queue.meaning l.queue));
    }

abbrev pub decreases-loop-station : goal.decreases-loop-station
decreases-loop-station g l = l.initial.self.stations - (g.Q.Queue.meaning l.queue).taken
