use Rattle.std.proofs.Common.{[]}
use Rattle.listing.proofs.reports.report_in.Goals as goal

pub returns-in-Ok : goal.returns-in-Ok
returns-in-Ok g c =
    let read = c.in-Ok.ensures in
    let lent = c.new-plan.ensures in
    let told = rw (lent.list, lent.costs, lent.predecessors) at read.refused in
    record { value = rw (← told) (c.worked_text.ensures.value.by_ledger _ [] read.commissioned) }
