-- What a shelf means.
--
--   shelf_rank q s       the rank of station s, if it is a station and waits
--   shelf_meaning q      the meaning of the shelf q as a queue
use Rattle.std.specs.Prelude.{ℕ, cond, None, Option, nat_lt, slice_index_or}
use Rattle.queue.specs.Meaning.{Meaning}
use Rattle.shelf.specs.declared.state.Shelf.{Shelf}

abbrev pub shelf_rank : Shelf → ℕ → Option ℕ
shelf_rank q s = cond (nat_lt s q.stations) (slice_index_or q.ranks s None) None

abbrev pub shelf_meaning : Shelf → Meaning
shelf_meaning q = record { stations = q.stations; ranks = shelf_rank q; taken = q.taken }
