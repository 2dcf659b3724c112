use Rattle.std.proofs.Common.{◌≡◌, length, ◌∙◌}
use Rattle.listing.specs.Report.{most_cells, most_links}
use Rattle.listing.proofs.reports.report_of.Goals as goal

pub returns : goal.returns
returns g c =
    let list : length c.deref_mut.result.now ≡ most_links = c.deref_mut.ensures.len ∙ c.in_ok-list.ensures.len in
    let costs : length c.deref_mut-2.result.now ≡ most_cells = c.deref_mut-2.ensures.len ∙ c.in_ok-costs.ensures.len in
    let predecessors : length c.deref_mut-3.result.now ≡ most_cells = c.deref_mut-3.ensures.len ∙ c.in_ok-predecessors.ensures.len in
    record { value = rw (list, costs, predecessors) at c.report_in.ensures.value }
