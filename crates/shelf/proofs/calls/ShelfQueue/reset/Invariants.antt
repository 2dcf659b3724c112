-- Nobody stands at a place below `place`.
use Rattle.std.proofs.Common.{◌≡◌, ℕ, ◌<◌, None, slice_index_or}
use Rattle.shelf.proofs.calls.ShelfQueue.reset.Given as goal

abbrev pub invariant-loop-place : goal.invariant-loop-place
invariant-loop-place l = (t : ℕ) → t < l.place → slice_index_or l.self.ranks t None ≡ None
