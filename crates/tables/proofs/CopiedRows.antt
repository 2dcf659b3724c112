-- A row is copied cell by cell.
use Rattle.std.specs.Prelude.{◌≡◌, ℕ, ◌+◌, ◌*◌, ◌<◌, ◌≤◌, List, ◌++◌, length, map, take, drop, slice_index_or, slice_set}
use Rattle.std.specs.List.{range_with_len}
use Rattle.std.specs.Option.{unwrap_or}
use Rattle.std.proofs.Common.{◌∙◌, arith}
use Rattle.std.proofs.lemmas.Bool.{cases_eq}
use Rattle.std.proofs.lemmas.Bool.Decides.{nat_tests}
use Rattle.std.proofs.lemmas.List.{append_assoc, drop_more, length-take-le, set_at}
use Rattle.std.proofs.lemmas.List.FromFn.{length-map-range_with_len, map-range_with_len_more}
use Rattle.ledger.specs.View.{stored}
use Rattle.tables.specs.View.{cell}

-- one more cell is written after those that were
pub copied_more : {X : Type 0} (f : ℕ → X) (n i : ℕ) (xs : List X) → n ≤ length xs → i < n → slice_set (map f (range_with_len 0 i) ++ drop i (take n xs)) i (f i) ≡ map f (range_with_len 0 (i + 1)) ++ drop (i + 1) (take n xs)
copied_more f n i xs room below =
    let inside : i < length (take n xs) = omega (arith, below, length-take-le n xs room) in
    let written : length (map f (range_with_len 0 i)) ≡ i = length-map-range_with_len f 0 i in
    rw (drop_more (take n xs) i (f i) inside, set_at, map-range_with_len_more f 0 i i (omega arith), append_assoc)

-- the cell of a station
pub cell_there : {X : Type 0} (n : ℕ) (xs : List X) (d : X) (a v : ℕ) → v < n → cell n xs d a v ≡ slice_index_or xs (a * n + v) d
cell_there n xs d a v there = grind (arith, nat_tests)

-- a predecessor is stored as its number, and none as 65,535
number_stored : (p : ℕ) → unwrap_or (stored p) 65535 ≡ p
number_stored p = grind (arith, nat_tests, cases_eq p 65535)

pub before_there : (n : ℕ) (ys : List ℕ) (a v : ℕ) → v < n → unwrap_or (stored (cell n ys 65535 a v)) 65535 ≡ slice_index_or ys (a * n + v) 65535
before_there n ys a v there = number_stored (cell n ys 65535 a v) ∙ cell_there n ys 65535 a v there
