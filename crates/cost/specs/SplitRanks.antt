-- Ranks of split lie between 1 and FAR, and the rank of a join is the product cut off at FAR:
-- the proofs of split's laws. They define nothing; they stand in specs/ since an impl takes its laws from there alone.
use Rattle.std.specs.Prelude.{◌≡◌, ℕ, ◌*◌, ◌<◌, ◌≤◌, min}
use Rattle.std.proofs.Common.{◌∙◌, mul-pos, mul_comm, one-mul, mul-one, arith}
use Rattle.std.proofs.lemmas.Bool.Decides.{nat_tests}
use Rattle.cost.specs.Kind.{FAR}
use Rattle.cost.specs.Laws.{Laws, Strict}
use Rattle.cost.specs.Split.{split_cost, split_kind, split_rank}
use Rattle.cost.specs.declared.split.Split.{Split}
use Rattle.cost.specs.Capped.{associative, cap_wins, keeps_order, keeps_strict, goes_above}

of_number : (n : ℕ) → 0 < n → n ≤ FAR → split_rank (split_cost n) ≡ n
of_number n pos fits = grind (arith, nat_tests)

positive : (a : Split) → 0 < split_rank a
positive a = grind (arith, nat_tests)

fits : (a : Split) → split_rank a ≤ FAR
fits a = grind (arith, nat_tests)

join_rank : (a b : Split) → split_rank (split_kind.joined a b) ≡ min (split_rank a * split_rank b) FAR
join_rank a b =
    let p : 0 < split_rank a * split_rank b = mul-pos (positive a) (positive b) in
    of_number (min (split_rank a * split_rank b) FAR) (omega arith) (omega arith)

pub split_laws : Laws split_kind
split_laws = record {
  rank_fits = fits;
  far_rank = refl_rank;
  zero_is_not_far = λ e. omega (arith, e);
  join_associative = λ a b c. rw (join_rank (split_kind.joined a b) c, join_rank a b, join_rank a (split_kind.joined b c), join_rank b c) (associative FAR (split_rank a) (split_rank b) (split_rank c) (positive a) (positive c));
  zero_left = λ a. rw (join_rank (split_cost 1) a) (omega (arith, one-mul (split_rank a), fits a));
  zero_right = λ a. rw (join_rank a (split_cost 1)) (omega (arith, mul-one (split_rank a), fits a));
  far_left = λ a. rw (join_rank (split_cost FAR) a) (cap_wins FAR (split_rank a) (positive a));
  far_right = λ a. rw (join_rank a (split_cost FAR), mul_comm (split_rank a) FAR) (cap_wins FAR (split_rank a) (positive a));
  join_keeps_left = λ a b c le. rw (join_rank c a, join_rank c b) (keeps_order FAR (split_rank a) (split_rank b) (split_rank c) le);
  join_keeps_right = λ a b c le. rw (join_rank a c, join_rank b c, mul_comm (split_rank a) (split_rank c), mul_comm (split_rank b) (split_rank c)) (keeps_order FAR (split_rank a) (split_rank b) (split_rank c) le);
}
  where
    refl_rank : split_rank (split_cost FAR) ≡ FAR
    refl_rank = of_number FAR (omega arith) (omega arith)

pub split_strict : Strict split_kind
split_strict = record {
  join_keeps_below = λ a b c lt ne. rw (join_rank c a, join_rank c b) (keeps_strict FAR (split_rank a) (split_rank b) (split_rank c) lt (positive c) (λ e. ne (join_rank c a ∙ e)));
  join_goes_above = λ a b near more. rw (join_rank a b) (goes_above FAR (split_rank a) (split_rank b) (positive a) (omega (arith, fits a, near)) (omega (arith, positive b, more)));
}
