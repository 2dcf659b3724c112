-- Costs are formed from numbers one after the other.
use Rattle.std.specs.Prelude.{◌≡◌, ℕ, ◌+◌, ◌<◌, ◌≤◌, List, ◌++◌, length, map, take, drop, slice_index_or, slice_set}
use Rattle.std.proofs.Common.{arith}
use Rattle.std.proofs.lemmas.List.{append_assoc, drop_more, length-map, length-take, length-take-le, map_more, set_at}

-- one more is formed after those that were
pub formed_more : {X : Type 0} (f : ℕ → X) (xs : List ℕ) (row : List X) (i : ℕ) → length xs ≤ length row → i < length (take (length xs) row) → slice_set (map f (take i xs) ++ drop i (take (length xs) row)) i (f (slice_index_or xs i 0)) ≡ map f (take (i + 1) xs) ++ drop (i + 1) (take (length xs) row)
formed_more f xs row i room inside =
    let within : i < length xs = omega (arith, inside, length-take-le (length xs) row room) in
    let written : length (map f (take i xs)) ≡ i = simp (length-map, length-take) (omega arith) in
    rw (drop_more (take (length xs) row) i (f (slice_index_or xs i 0)) inside, set_at, map_more f xs i 0 within, append_assoc)
