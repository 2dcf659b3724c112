-- The rows of the sources before `source-index` were worked in turn, and the log goes on with their works.
use Rattle.std.proofs.Common.{◌≡◌, ◌++◌, List, take}
use Rattle.ledger.specs.Ledger.{Ledger, network}
use Rattle.ledger.specs.Log.{Entry}
use Rattle.ledger.specs.Stands.{Stands}
use Rattle.plan.specs.View.{view}
use Rattle.listing.specs.InTurn.{works_of, InTurn}
use Rattle.listing.proofs.works.work_each.Given as goal

abbrev pub invariant-loop-source : goal.invariant-loop-source
invariant-loop-source g l =
    let m = g.K.Cost.kind in
    let queue = g.Q.Queue.meaning in
    let done = take l.source-index l.sources in record {
      rows : InTurn m l.method l.initial.plan (queue l.initial.queue) done l.plan (queue l.queue);
      same : network (view m l.plan).ledger ≡ network (view m l.initial.plan).ledger;
      logged : (start : Ledger _) (log : List (Entry _)) → Stands m start log (view m l.initial.plan) → Stands m start (log ++ works_of done l.method) (view m l.plan);
    }
