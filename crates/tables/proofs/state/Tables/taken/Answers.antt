use Rattle.std.proofs.Common.{refl}
use Rattle.ledger.specs.View.{task_of}
use Rattle.tables.specs.View.{view_of}
use Rattle.tables.specs.Working.{state_of}
use Rattle.tables.proofs.Offering.{plain_goes, prune_begins, prune_goes}
use Rattle.tables.proofs.state.Tables.taken.Goals as goal

pub returns-in-Plain : goal.returns-in-Plain
returns-in-Plain g c = let m = g.K.Cost.kind in record {
  source = refl;
  from = refl;
  station = refl;
  label = c.label-label.ensures.value;
  guide = tt;
  offers = λ q. plain_goes m (task_of (view_of m c.args.self.now) c.args.source c.args.method) (state_of m c.args.self.now c.args.source c.args.firsts.now q) c.args.station c.in-Plain.is c.label-label.result c.label-label.ensures.value;
}

pub returns-in-Prune-clause-offers : goal.returns-in-Prune-clause-offers
returns-in-Prune-clause-offers g c q =
    let m = g.K.Cost.kind in
    let a = c.args.source in
    prune_begins m (task_of (view_of m c.args.self.now) a c.args.method) (state_of m c.args.self.now a c.args.firsts.now q) c.args.station c.in-Prune.is _ c.label-label.ensures.value c.if-station-source.true

pub returns-in-Prune-2-clause-offers : goal.returns-in-Prune-2-clause-offers
returns-in-Prune-2-clause-offers g c q =
    let m = g.K.Cost.kind in
    let a = c.args.source in
    prune_goes m (task_of (view_of m c.args.self.now) a c.args.method) (state_of m c.args.self.now a c.args.firsts.now q) c.args.station c.in-Prune-2.is _ _ _ c.label-label.ensures.value c.if-station-source.false refl c.guide.ensures.row
