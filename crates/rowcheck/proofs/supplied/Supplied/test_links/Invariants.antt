-- What the links before this one tell.
use Rattle.std.proofs.Common.{◌≡◌, length, take}
use Rattle.rowcheck.specs.Links.{Looked}
use Rattle.rowcheck.specs.Parts.{row_of}
use Rattle.rowcheck.proofs.supplied.Supplied.test_links.Given as goal

abbrev pub invariant-loop-link : goal.invariant-loop-link
invariant-loop-link g l = record {
  long : length l.found ≡ 256;
  looked : Looked g.K.Cost.kind (record { stations = l.self.stations; links = take l.link-index l.self.links.now }) l.self.source (row_of g.K.Cost.kind l.self) l.found;
}
