-- Ranges of numbers, both ends included.
--
--   outside low high v     v is not in the range from low to high
use Rattle.std.specs.Prelude.{ℕ, Bool, ◌||◌, nat_lt}

abbrev pub outside : ℕ → ℕ → ℕ → Bool
outside low high v = nat_lt v low || nat_lt high v
