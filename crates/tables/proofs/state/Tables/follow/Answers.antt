use Rattle.std.proofs.Common.{◌∙◌, ap, sym}
use Rattle.routes.specs.Offers.{offered_all}
use Rattle.tables.specs.View.{view_of}
use Rattle.tables.specs.Working.{state_of}
use Rattle.tables.proofs.Offering.{offers_over_links}
use Rattle.tables.proofs.state.Tables.follow.Goals as goal

pub returns-else-goes_along-clause-state : goal.returns-else-goes_along-clause-state
returns-else-goes_along-clause-state g c =
    let m = g.K.Cost.kind in
    let t = c.args.self.now in
    let q = g.Q.Queue.meaning c.args.queue.now in
    let s = state_of m t c.args.source c.args.firsts.now q in
    let step = rw (c.taken-taken.ensures.source, c.taken-taken.ensures.station) at c.follow_links.ensures.state in
    step ∙ ap (offered_all m s) (c.taken-taken.ensures.offers q ∙ offers_over_links m (view_of m t) c.args.source s c.args.station c.args.method (sym c.goes_along.ensures.value ∙ c.if-goes_along.false))
