-- Each row is marked when it is copied, and so it is right.
use Rattle.std.specs.Prelude.{◌≡◌}
use Rattle.std.proofs.Common.{ap, arith, subst}
use Rattle.routes.specs.Network.{Network}
use Rattle.routes.specs.Row.{Right}
use Rattle.plan.specs.View.{view}
use Rattle.capi.specs.Tabled.{Filled}
use Rattle.capi.proofs.whole.fill_table.Goals as goal

pub returns-clause-tabled : goal.returns-clause-tabled
returns-clause-tabled g c start log stands =
    let m = g.K.Cost.kind in
    let before = view m c.args.plan.now in
    let after = view m c.work_table.new.plan in
    let same = c.work_table.ensures.network in
    let stations : after.ledger.stations ≡ before.ledger.stations = ap (λ (net : Network _). net.stations) same in
    let stood = c.work_table.ensures.rows.logged start log stands in record {
      bounds = record { few = stands.holds.not_too_many; between = stands.holds.fair.between };
      rows = after.rows;
      right = λ a there. subst (λ net. Right m net a (after.rows a)) same (stood.holds.marked a (omega (arith, there, stations)) (c.work_table.ensures.marked a there));
      filled = subst (λ net. Filled m net after.rows c.args.costs.now c.copy_table.new.costs c.args.predecessors.now c.copy_table.new.predecessors) same c.copy_table.ensures.filled;
    }
