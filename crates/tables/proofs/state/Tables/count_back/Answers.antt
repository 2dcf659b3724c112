use Rattle.std.proofs.Common.{◌∙◌, sym, rules}
use Rattle.tables.specs.View.{row_of}
use Rattle.tables.proofs.Tracing.{count_goes_on, count_stops}
use Rattle.tables.proofs.state.Tables.count_back.Goals as goal

pub loop-preserved : goal.loop-preserved
loop-preserved g c = count_goes_on (row_of g.K.Cost.kind c.args.self.now c.args.row) _ _ (search rules) (sym c.predecessor.ensures.value ∙ c.in-Some.is) c.loop.invariant

pub returns-in_default : goal.returns-in_default
returns-in_default g c = record { value = count_stops (row_of g.K.Cost.kind c.args.self.now c.args.row) _ _ (search rules) (sym c.predecessor.ensures.value ∙ c.in_default.is) c.loop.invariant }
