-- Sum: picoseconds. A rank is the number itself; a total above the greatest cost is FAR.
--
--   sum_cost n    the sum cost with the number n
--   sum_kind      zero is 0, join adds
--   sum_formed    every number forms a cost, the greatest one FAR
use Rattle.std.specs.Prelude.{ℕ, ◌+◌, min, Some, Option}
use Rattle.cost.specs.Kind.{Kind, FAR}
use Rattle.cost.specs.declared.sum.Sum.{Sum}

abbrev pub sum_cost : ℕ → Sum
sum_cost n = record { picoseconds = n }

abbrev pub sum_kind : Kind Sum
sum_kind = record {
  rank = λ a. min a.picoseconds FAR;
  zero = sum_cost 0;
  far = sum_cost FAR;
  joined = λ a b. sum_cost (min (a.picoseconds + b.picoseconds) FAR);
}

abbrev pub sum_formed : ℕ → Option Sum
sum_formed n = Some (sum_cost n)
