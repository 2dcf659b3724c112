-- Cells that were all given one value.
--
--   Filled from to x xs ys    ys is xs, but x at the places from one up to the other
use Rattle.std.specs.Prelude.{◌≡◌, ℕ, ◌<◌, ◌≤◌, List, length, slice_index_or, ◌⊎◌}

pub record Filled {X : Type 0} (from to : ℕ) (x : X) (xs ys : List X) : Type 0 where
  pub long : length ys ≡ length xs
  pub inside : (i : ℕ) (d : X) → from ≤ i → i < to → slice_index_or ys i d ≡ x
  pub others : (i : ℕ) (d : X) → (i < from) ⊎ (to ≤ i) → slice_index_or ys i d ≡ slice_index_or xs i d
