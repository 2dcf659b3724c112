-- Lists of stations in which none stands twice.
--
--   NoneTwice xs    no station stands in xs twice
use Rattle.std.specs.Prelude.{ℕ, ◌≤◌, List}
use Rattle.queue.specs.Drained.{times}

pub record NoneTwice (xs : List ℕ) : Type 0 where
  pub at_most_once : (s : ℕ) → times s xs ≤ 1
