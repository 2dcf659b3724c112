-- The links stand at the list's start, and run between the stations.
use Rattle.std.proofs.Common.{ap, rules}
use Rattle.tables.proofs.ReadLinks.{file_read, front_between}
use Rattle.tables.proofs.state.Tables.read_file.Goals as goal

pub invariant_of-self : goal.invariant_of-self
invariant_of-self g c = record {
  few = c.args.self.now.few;
  marks = c.args.self.now.marks;
  counted = search rules;
  short = search rules;
  list_short = search rules;
  costs_fit = c.args.self.now.costs_fit;
  predecessors_fit = c.args.self.now.predecessors_fit;
  between = search rules;
  indexed = c.departures_of-none.ensures;
}

pub commission-requires-clause-between : goal.commission-requires-clause-between
commission-requires-clause-between g c = front_between g.K.Cost.kind g.K.FileKind.format c.read_links.new.cells c.in-Ok.ensures.holds.sound (search rules)

pub returns-in-Ok-clause-read : goal.returns-in-Ok-clause-read
returns-in-Ok-clause-read g c =
    let told = c.in-Ok.ensures in
    let left = c.commission.ensures in
    file_read g.K.Cost.kind g.K.Cost.formed c.args.bytes.now c.args.self.now c.commission.new.self (ap (λ x. x.stations) told.value) (ap (λ x. x.links) told.value) told.after told.long (search rules) left.ledger left.list left.costs left.predecessors
