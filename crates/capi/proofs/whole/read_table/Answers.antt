use Rattle.std.proofs.Common.{ap, subst}
use Rattle.ledger.specs.Ledger.{network}
use Rattle.capi.specs.Tabled.{Tabled}
use Rattle.capi.proofs.whole.read_table.Goals as goal

pub returns-clause-tabled : goal.returns-clause-tabled
returns-clause-tabled g c =
    let read = c.in_ok-read_plan.ensures in
    subst (λ net. Tabled g.K.Cost.kind net c.args.costs.now c.fill_table.new.costs c.args.predecessors.now c.fill_table.new.predecessors)
    (ap network read.ledger)
    (c.fill_table.ensures.tabled _ _ read.stands)
