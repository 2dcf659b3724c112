-- Each row is marked when it is copied, and so it is right.
use Rattle.std.specs.Prelude.{◌≡◌}
use Rattle.std.proofs.Common.{ap, arith, subst}
use Rattle.routes.specs.Network.{Network}
use Rattle.routes.specs.Row.{Right}
use Rattle.plan.specs.View.{view}
use Rattle.capi.specs.Tabled.{Filled}
use Rattle.capi.proofs.by_method.fill_by.Goals as goal

pub returns-clause-filled : goal.returns-clause-filled
returns-clause-filled g c start log stands =
    let m = g.K.Cost.kind in
    let meaning = g.Q.Queue.meaning in
    let before = view m c.args.plan.now in
    let after = view m c.work_all.new.plan in
    let same = c.work_all.ensures.network in
    let stations : after.ledger.stations ≡ before.ledger.stations = ap (λ (net : Network _). net.stations) same in
    let stood = c.work_all.ensures.logged start log stands in record {
      after = c.work_all.new.plan;
      queue = meaning c.args.queue.now;
      queue_then = meaning c.work_all.new.queue;
      worked = c.work_all.ensures.rows;
      bounds = record { few = stands.holds.not_too_many; between = stands.holds.fair.between };
      right = λ a there. subst (λ net. Right m net a (after.rows a)) same (stood.holds.marked a (omega (arith, there, stations)) (c.work_all.ensures.marked a there));
      filled = subst (λ net. Filled m net after.rows c.args.costs.now c.copy_table.new.costs c.args.predecessors.now c.copy_table.new.predecessors) same c.copy_table.ensures.filled;
    }
