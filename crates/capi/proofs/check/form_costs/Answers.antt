use Rattle.std.specs.Prelude.{◌≡◌, slice_index_or}
use Rattle.std.specs.Option.{unwrap_or}
use Rattle.std.proofs.Common.{rules}
use Rattle.capi.proofs.FormedCosts.{formed_more}
use Rattle.capi.proofs.check.form_costs.Goals as goal

pub loop-station-preserved : goal.loop-station-preserved
loop-station-preserved g c =
    let m = g.K.Cost.kind in
    let value : c.unwrap_or.result ≡ unwrap_or (g.K.Cost.formed (slice_index_or c.args.numbers.now c.loop-station.station 0)) m.far = search rules in
    rw (c.loop-station.invariant, value) (formed_more (λ x. unwrap_or (g.K.Cost.formed x) m.far) c.args.numbers.now c.args.row.now c.loop-station.station c.requires.room c.loop-station-test.true)
