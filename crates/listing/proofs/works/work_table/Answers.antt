use Rattle.std.proofs.Common.{◌≡◌, ◌++◌, ap, subst, take}
use Rattle.routes.specs.Network.{Network}
use Rattle.routes.specs.declared.method.Method.TheVariants.{Reuse}
use Rattle.ledger.specs.Stands.{Stands}
use Rattle.plan.specs.View.{view}
use Rattle.listing.specs.AllRows.{works, AllWorked}
use Rattle.listing.specs.InTurn.{works_of}
use Rattle.tables.proofs.Memory.{memory_twice}
use Rattle.listing.proofs.works.work_table.Goals as goal

pub returns-clause-rows : goal.returns-clause-rows
returns-clause-rows g c =
    let m = g.K.Cost.kind in
    let meaning = g.Q.Queue.meaning in
    let sources = take c.counts-stations.result.stations c.order_of-order.result in
    let between = c.work_each.new.plan in
    let same : (view m between).ledger.stations ≡ (view m c.args.plan.now).ledger.stations = ap (λ (net : Network _). net.stations) c.work_each.ensures.network in record {
      sources = sources;
      between = between;
      queue_between = meaning c.work_each.new.queue;
      first = c.work_each.ensures.rows;
      then = subst (λ n. AllWorked m Reuse between (meaning c.work_each.new.queue) n c.work_all.new.plan (meaning c.work_all.new.queue)) same c.work_all.ensures.rows;
      logged = λ start log stands.
          subst (λ n. Stands m start ((log ++ works_of sources Reuse) ++ works n Reuse) (view m c.work_all.new.plan)) same
          (c.work_all.ensures.logged start _ (c.work_each.ensures.logged start log stands));
    }

pub returns-clause-memory : goal.returns-clause-memory
returns-clause-memory g c = memory_twice c.work_each.ensures.memory c.work_all.ensures.memory
