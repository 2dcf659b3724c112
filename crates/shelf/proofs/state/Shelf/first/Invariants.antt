-- No station below `station` waits.
use Rattle.std.proofs.Common.{◌≡◌, ℕ, ◌<◌, None}
use Rattle.shelf.specs.Shelved.{shelf_rank}
use Rattle.shelf.proofs.state.Shelf.first.Given as goal

abbrev pub invariant-loop-station : goal.invariant-loop-station
invariant-loop-station l = (t : ℕ) → t < l.station → shelf_rank l.self t ≡ None
