-- Split: outlets. A rank is the number itself, but a stored 0 is no number of outlets and stands for FAR;
-- a product above the greatest cost is FAR.
--
--   split_cost n    the split cost with the number n
--   split_rank a    FAR for a stored 0
--   split_kind      zero is 1, join multiplies
--   split_formed    every number but 0 forms a cost, the greatest one FAR
use Rattle.std.specs.Prelude.{ℕ, ◌*◌, min, cond, Some, None, Option, ◌==◌}
use Rattle.cost.specs.Kind.{Kind, FAR}
use Rattle.cost.specs.declared.split.Split.{Split}

abbrev pub split_cost : ℕ → Split
split_cost n = record { outlets = n }

abbrev pub split_rank : Split → ℕ
split_rank a = cond (a.outlets == 0) FAR (min a.outlets FAR)

abbrev pub split_kind : Kind Split
split_kind = record {
  rank = split_rank;
  zero = split_cost 1;
  far = split_cost FAR;
  joined = λ a b. split_cost (min (split_rank a * split_rank b) FAR);
}

abbrev pub split_formed : ℕ → Option Split
split_formed n = cond (n == 0) None (Some (split_cost n))
