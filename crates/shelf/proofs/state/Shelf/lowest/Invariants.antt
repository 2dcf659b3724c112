-- The best so far is the lowest of the stations below `station`.
use Rattle.shelf.proofs.Scan.{Foremost}
use Rattle.shelf.proofs.state.Shelf.lowest.Given as goal

abbrev pub invariant-loop-station : goal.invariant-loop-station
invariant-loop-station l = Foremost l.self l.station l.best
