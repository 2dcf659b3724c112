use Rattle.std.proofs.Common.{◌∙◌, arith, refl, ap, rules}
use Rattle.std.specs.Option.{unwrap_or}
use Rattle.tables.specs.View.{row_of}
use Rattle.tables.proofs.Tracing.{write_begins, write_goes_on}
use Rattle.tables.proofs.state.Tables.write_back.Goals as goal

pub loop-place-init : goal.loop-place-init
loop-place-init g c = write_begins (row_of g.K.Cost.kind c.args.self.now c.args.row) _ _ c.requires.count

pub loop-place-preserved : goal.loop-place-preserved
loop-place-preserved g c =
    let back = c.unwrap_or-at.ensures ∙ ap (λ o. unwrap_or o c.loop-place.at) c.predecessor.ensures.value in
    rw back (write_goes_on (row_of g.K.Cost.kind c.args.self.now c.args.row) _ _ (omega arith) (search rules) refl c.loop-place.invariant)
