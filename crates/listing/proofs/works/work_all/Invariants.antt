-- The rows below `source` were worked, and the log goes on with their works.
use Rattle.std.proofs.Common.{◌++◌, List}
use Rattle.ledger.specs.Ledger.{Ledger}
use Rattle.ledger.specs.Log.{Entry}
use Rattle.ledger.specs.Stands.{Stands}
use Rattle.plan.specs.View.{view}
use Rattle.listing.specs.AllRows.{works, AllWorked}
use Rattle.listing.proofs.WorkedRows.{Marked}
use Rattle.listing.proofs.works.work_all.Given as goal

abbrev pub invariant-loop-source : goal.invariant-loop-source
invariant-loop-source g l =
    let m = g.K.Cost.kind in
    let queue = g.Q.Queue.meaning in record {
      rows : AllWorked m l.method l.initial.plan (queue l.initial.queue) l.source l.plan (queue l.queue);
      marked : Marked (view m l.initial.plan) (view m l.plan) l.source;
      logged : (start : Ledger _) (log : List (Entry _)) → Stands m start log (view m l.initial.plan) → Stands m start (log ++ works l.source l.method) (view m l.plan);
    }
