-- No link is looked at before the first; and a station that fails for this link fails.
use Rattle.std.proofs.Common.{refl}
use Rattle.std.proofs.lemmas.Result.{err_from_is_err_and}
use Rattle.rowcheck.specs.Parts.{row_of}
use Rattle.rowcheck.proofs.Looked.{looked_none, named_link}
use Rattle.rowcheck.proofs.supplied.Supplied.test_links.Goals as goal

pub loop-link-init : goal.loop-link-init
loop-link-init g c = record { long = refl; looked = looked_none g.K.Cost.kind c.args.self.now.stations c.args.self.now.source (row_of g.K.Cost.kind c.args.self.now) 256 c.args.self.now.few }

pub returns-in_err-test_link-clause-named : goal.returns-in_err-test_link-clause-named
returns-in_err-test_link-clause-named g c =
    let s = c.args.self.now in
    let p = err_from_is_err_and c.from_residual.result c.from_residual.ensures.1 in
    rw (p.1, p.2) (named_link g.K.Cost.kind s.stations s.source (row_of g.K.Cost.kind s) s.links.now c.loop-link.link-index c.link-item.result c.loop-link-test.true c.link-item.is _ c.in_err-test_link.ensures.value)
