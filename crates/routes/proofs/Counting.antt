-- A list of stations is as long as a count of them, where each that is counted stands in it once.
use Rattle.std.proofs.Common.{◌≡◌, ℕ, zero, suc, ◌+◌, ◌<◌, ◌≤◌, Bool, List, cond, length, nat_lt, refl, ap, arith, map-id, add-one}
use Rattle.std.proofs.lemmas.List.FromFn.{length-range_with_len, sum_by-map-range_with_len_more}
use Rattle.std.proofs.lemmas.List.Sums.{count_by-le-length}
use Rattle.std.specs.List.{count_by, range_with_len}
use Rattle.queue.specs.Drained.{times}
use Rattle.queue.proofs.EachOnce.{below, below_suc, below_zero, all_below}

-- how many numbers below n pass
abbrev pub counted : (ℕ → Bool) → ℕ → ℕ
counted p n = count_by p (range_with_len 0 n)

-- one number more
counted_suc : (p : ℕ → Bool) (n : ℕ) → counted p (suc n) ≡ counted p n + cond (p n) 1 0
counted_suc p n =
    let more = sum_by-map-range_with_len_more (λ x. cond (p x) 1 0) (λ x. x) 0 n n (omega arith) in
    rw add-one at (simp map-id at more)

-- what is told alike of each number below n is counted alike
pub counted_alike : (p q : ℕ → Bool) (n : ℕ) → ((v : ℕ) → v < n → p v ≡ q v) → counted p n ≡ counted q n
counted_alike p q zero alike = refl
counted_alike p q (suc n) alike =
    let before = counted_alike p q n (λ v below_n. alike v (omega (arith, below_n))) in
    omega (arith, counted_suc p n, counted_suc q n, before, ap {B = ℕ} (λ (b : Bool). cond b 1 0) (alike n (omega arith)))

-- at most all do
pub counted_few : (p : ℕ → Bool) (n : ℕ) → counted p n ≤ n
counted_few p n = omega (arith, count_by-le-length p (range_with_len 0 n), length-range_with_len 0 n)

module _ (p : ℕ → Bool) (xs : List ℕ) (n : ℕ) where
  -- those below k that stand in the list once or not at all, and pass if they do
  at_most_below : ((v : ℕ) → times v xs ≤ cond (p v) 1 0) → (k : ℕ) → below k xs ≤ counted p k
  at_most_below once zero = let none = below_zero xs in omega arith
  at_most_below once (suc k) =
      let before = at_most_below once k in
      omega (arith, below_suc k xs, counted_suc p k, once k)

  pub at_most_counted : ((v : ℕ) → times v xs ≤ cond (p v) 1 0) → ((v : ℕ) → n ≤ v → times v xs ≡ 0) → length xs ≤ counted p n
  at_most_counted once none = omega (arith, all_below n xs none, at_most_below once n)

  -- those below k that pass, if they all stand in the list
  at_least_below : ((v : ℕ) → cond (p v) 1 0 ≤ times v xs) → (k : ℕ) → counted p k ≤ below k xs
  at_least_below each zero = omega arith
  at_least_below each (suc k) =
      let before = at_least_below each k in
      omega (arith, below_suc k xs, counted_suc p k, each k)

  pub at_least_counted : ((v : ℕ) → cond (p v) 1 0 ≤ times v xs) → counted p n ≤ length xs
  at_least_counted each = omega (arith, at_least_below each n, count_by-le-length (λ x. nat_lt x n) xs)
