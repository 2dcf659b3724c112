-- A laid link runs between stations.
use Rattle.std.specs.Prelude.{◌<◌}
use Rattle.std.proofs.Common.{sym, subst}
use Rattle.tables.proofs.state.Tables.link.Goals as goal

pub returns-clause-between : goal.returns-clause-between
returns-clause-between g c =
    let t = c.args.self.now in
    let l = c.at.result in
    subst (λ k. (k.from < t.stations) × (k.to < t.stations)) (sym (c.at.ensures l)) (t.between c.args.place l c.requires)
