use Rattle.std.specs.Prelude.{◌≡◌, ◌<◌}
use Rattle.std.specs.Option.{unwrap_or}
use Rattle.std.proofs.Common.{◌∙◌, arith, sym}
use Rattle.std.proofs.lemmas.List.{length-take-le}
use Rattle.tables.specs.View.{row_of}
use Rattle.tables.proofs.CopiedRows.{before_there, copied_more}
use Rattle.tables.proofs.state.Tables.copy_predecessors.Goals as goal

pub loop-station-preserved : goal.loop-station-preserved
loop-station-preserved g c =
    let m = g.K.Cost.kind in
    let t = c.args.self.now in
    let n = t.stations in
    let v = c.loop-station.station in
    let there : v < n = omega (arith, c.loop-station-test.true, length-take-le n c.args.predecessors.now c.requires.room) in
    let value : c.at.result ≡ unwrap_or ((row_of m t c.args.source).predecessors v) 65535 =
    c.at.ensures 65535 ∙ sym (before_there n t.predecessors.now c.args.source v there) in
    rw (c.loop-station.invariant, value) (copied_more (λ b. unwrap_or ((row_of m t c.args.source).predecessors b) 65535) n v c.args.predecessors.now c.requires.room there)
