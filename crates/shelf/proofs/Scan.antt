-- Looking through the stations in order.
--
--   Foremost q n b   b waits on the shelf q at its rank, and no station below n waits at a lower one
use Rattle.std.proofs.Common.{◌≡◌, ℕ, ◌<◌, ◌≤◌, Some}
use Rattle.shelf.specs.Shelved.{shelf_rank}
use Rattle.shelf.specs.declared.calls.Waiter.{Waiter}
use Rattle.shelf.specs.declared.state.Shelf.{Shelf}

pub record Foremost (q : Shelf) (n : ℕ) (b : Waiter) : Type 0 where
  pub waits : shelf_rank q b.station ≡ Some b.rank
  pub least : (t : ℕ) → t < n → (y : ℕ) → shelf_rank q t ≡ Some y → b.rank ≤ y
