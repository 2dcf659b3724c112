-- The stations before this one with a predecessor are found.
use Rattle.std.proofs.Common.{◌≡◌, ℕ, ◌<◌, None}
use Rattle.rowcheck.specs.Links.{unfound}
use Rattle.rowcheck.specs.Parts.{row_of}
use Rattle.rowcheck.proofs.supplied.Supplied.test_found.Given as goal

abbrev pub invariant-loop-station : goal.invariant-loop-station
invariant-loop-station g l = (B : ℕ) → B < l.station → unfound (row_of g.K.Cost.kind l.self) l.found B ≡ None
