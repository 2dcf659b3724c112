-- The index is that of the links that are laid now.
use Rattle.std.proofs.Common.{rules}
use Rattle.tables.proofs.Between.{between_set}
use Rattle.tables.proofs.state.Tables.push_link.Goals as goal

pub invariant_of-self : goal.invariant_of-self
invariant_of-self g c = record {
  few = c.args.self.now.few;
  marks = c.args.self.now.marks;
  counted = search rules;
  short = search rules;
  list_short = search rules;
  costs_fit = c.args.self.now.costs_fit;
  predecessors_fit = c.args.self.now.predecessors_fit;
  between = rw c.put-self.ensures.list (between_set c.args.self.now.stations c.args.self.now.count c.args.self.now.list.now c.args.link c.args.self.now.between c.requires.stations c.requires.room);
  indexed = c.put-self.ensures.indexed;
}
