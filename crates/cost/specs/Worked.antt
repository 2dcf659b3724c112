-- The two delivered kinds at their ends, as a table: each join's rank, beside its number.
--
--   worked_ranks      the ranks of the joins, by the definitions of the kinds
--   worked_numbers    the numbers that they are: the greatest cost and FAR for sum, the same for split,
--                     ten links of 64 outlets, and eleven
use Rattle.std.specs.Prelude.{ℕ, ◌-◌, ◌^◌, List, [], ◌∷◌, replicate}
use Rattle.cost.specs.Joins.{joins}
use Rattle.cost.specs.Kind.{FAR}
use Rattle.cost.specs.Split.{split_cost, split_kind}
use Rattle.cost.specs.Sum.{sum_kind, sum_cost}

abbrev pub worked_ranks : List ℕ
worked_ranks =
    sum_kind.rank (sum_kind.joined (sum_cost (2 ^ 64 - 3)) (sum_cost 1))
    ∷ sum_kind.rank (sum_kind.joined (sum_cost (2 ^ 64 - 2)) (sum_cost 1))
    ∷ split_kind.rank (split_kind.joined (split_cost (2 ^ 63 - 1)) (split_cost 2))
    ∷ split_kind.rank (split_kind.joined (split_cost (2 ^ 63)) (split_cost 2))
    ∷ split_kind.rank (joins split_kind (replicate 10 (split_cost 64)))
    ∷ split_kind.rank (joins split_kind (replicate 11 (split_cost 64)))
    ∷ []

abbrev pub worked_numbers : List ℕ
worked_numbers = (2 ^ 64 - 2) ∷ FAR ∷ (2 ^ 64 - 2) ∷ FAR ∷ (2 ^ 60) ∷ FAR ∷ []
