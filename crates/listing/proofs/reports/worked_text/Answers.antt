use Rattle.std.proofs.Common.{string_bytes, rules, ap, ◌∙◌, subst, ◌<◌}
use Rattle.routes.specs.Network.{Network}
use Rattle.ledger.specs.Ledger.{network}
use Rattle.ledger.specs.Log.{reckon}
use Rattle.listing.proofs.ListedPairs.{listed}
use Rattle.listing.proofs.reports.worked_text.Goals as goal

pub returns : goal.returns
returns g c = record {
  value = record {
    by_ledger = λ start log stands.
        let m = g.K.Cost.kind in
        let worked = c.work_all.ensures in
        let stations = ap (λ (net : Network _). net.stations) worked.network in
        listed m g.K.FileKind.format (worked.logged start log stands) (network (reckon m start log)) (worked.network ∙ ap network stands.reckoned)
        (λ a there. worked.marked a (subst (λ n. a < n) stations there)) (string_bytes c.push_str.new.self) (search rules);
  };
}
