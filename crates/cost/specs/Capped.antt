-- Products of positive numbers, cut off at a cap F: what the laws of split come to. Lemmas, of which the
-- laws in SplitRanks are made.
use Rattle.std.specs.Prelude.{◌≡◌, ℕ, ◌*◌, ◌<◌, ◌≤◌, min, ◌≢◌}
use Rattle.std.proofs.Common.{sym, ap, ◌∙◌, ⊎_elim, mul_assoc, mul_comm, mul-one, mul-le-mul_left, mul-le-mul_right, arith}
use Rattle.std.proofs.Math.Nat.{mul-lt-mul_of_pos_left}
use Rattle.std.proofs.lemmas.Bool.{cases_lt}

module _ (F : ℕ) where
  -- a factor may be cut off before the product is
  pub cut_first : (p z : ℕ) → 0 < z → min (min p F * z) F ≡ min (p * z) F
  cut_first p z pos =
      ⊎_elim
      (λ (above : F < p).
      let cut : min p F ≡ F = omega arith in
      let one_F : F * 1 ≤ F * z = mul-le-mul_left F pos in
      let more : F * z ≤ p * z = mul-le-mul_right z (omega arith) in
      rw cut (omega (arith, mul-one F)))
      (λ (within : p ≤ F). let uncut : min p F ≡ p = omega arith in rw uncut)
      (cases_lt F p)

  pub associative : (x y z : ℕ) → 0 < x → 0 < z → min (min (x * y) F * z) F ≡ min (x * min (y * z) F) F
  associative x y z px pz =
      cut_first (x * y) z pz
      ∙ ap (λ n. min n F) (mul_assoc x y z ∙ mul_comm x (y * z))
      ∙ sym (cut_first (y * z) x px)
      ∙ ap (λ n. min n F) (mul_comm (min (y * z) F) x)

  pub cap_wins : (x : ℕ) → 0 < x → min (F * x) F ≡ F
  cap_wins x px =
      let more : F * 1 ≤ F * x = mul-le-mul_left F px in
      omega (arith, mul-one F)

  pub keeps_order : (x y z : ℕ) → x ≤ y → min (z * x) F ≤ min (z * y) F
  keeps_order x y z le = let more : z * x ≤ z * y = mul-le-mul_left z le in omega arith

  pub keeps_strict : (x y z : ℕ) → x < y → 0 < z → (min (z * x) F ≢ F) → min (z * x) F < min (z * y) F
  keeps_strict x y z lt pz ne = let more : z * x < z * y = mul-lt-mul_of_pos_left lt pz in omega arith

  pub goes_above : (x y : ℕ) → 0 < x → x < F → 1 < y → x < min (x * y) F
  goes_above x y px below two =
      let double : x * 2 ≤ x * y = mul-le-mul_left x two in
      omega arith
