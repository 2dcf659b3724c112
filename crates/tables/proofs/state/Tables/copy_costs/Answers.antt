use Rattle.std.specs.Prelude.{◌≡◌, ◌<◌}
use Rattle.std.proofs.Common.{◌∙◌, arith, ap, sym}
use Rattle.std.proofs.lemmas.List.{length-take-le}
use Rattle.tables.specs.View.{row_of}
use Rattle.tables.proofs.CopiedRows.{cell_there, copied_more}
use Rattle.tables.proofs.state.Tables.copy_costs.Goals as goal

pub loop-station-preserved : goal.loop-station-preserved
loop-station-preserved g c =
    let m = g.K.Cost.kind in
    let t = c.args.self.now in
    let n = t.stations in
    let v = c.loop-station.station in
    let there : v < n = omega (arith, c.loop-station-test.true, length-take-le n c.args.costs.now c.requires.room) in
    let value : c.rank.result ≡ m.rank ((row_of m t c.args.source).costs v) =
    c.rank.ensures.value ∙ ap m.rank (c.at.ensures m.far ∙ sym (cell_there n t.costs.now m.far c.args.source v there)) in
    rw (c.loop-station.invariant, value) (copied_more (λ b. m.rank ((row_of m t c.args.source).costs b)) n v c.args.costs.now c.requires.room there)
