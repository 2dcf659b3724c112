-- One row more is looked at, and cleared where it is worked.
use Rattle.std.proofs.Common.{sym, ◌∙◌, ◌+◌, subst}
use Rattle.tables.proofs.Unworking.{Unworking, one_cleared, one_passed}
use Rattle.tables.proofs.state.Tables.clear_worked.Goals as goal
use Rattle.tables.proofs.state.Tables.clear_worked.Goals.{then-is_worked, else-is_worked}

pub loop-row-preserved : goal.loop-row-preserved
loop-row-preserved g c =
    let m = g.K.Cost.kind in
    let so_far = c.loop-row.invariant in
    let answer = sym c.is_worked.ensures.value in
    elim c.if-is_worked.branch [
      | then-is_worked w ↦ subst (λ s. Unworking m (c.loop-row.row + 1) c.args.self.now s) (sym w.self-is) (one_cleared m (c.is_worked.ensures.there w.if-is_worked.true) (answer ∙ w.if-is_worked.true) so_far w.clear_row.ensures.cleared w.clear_row.ensures.kept)
      | else-is_worked w ↦ subst (λ s. Unworking m (c.loop-row.row + 1) c.args.self.now s) (sym w.self-is) (one_passed m (answer ∙ w.if-is_worked.false) so_far)
    ]
