-- The stations before this one have no cause of their own.
use Rattle.std.proofs.Common.{◌≡◌, ℕ, ◌<◌, None}
use Rattle.rowcheck.specs.Stations.{own_cause}
use Rattle.rowcheck.specs.Parts.{network_of, row_of}
use Rattle.rowcheck.proofs.supplied.Supplied.test_stations.Given as goal

abbrev pub invariant-loop-station : goal.invariant-loop-station
invariant-loop-station g l = (B : ℕ) → B < l.station → own_cause g.K.Cost.kind (network_of l.self) l.self.source (row_of g.K.Cost.kind l.self) B ≡ None
