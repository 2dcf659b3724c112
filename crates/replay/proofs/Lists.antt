-- Lists that are filled from their start: what stays below the place that is written next, and what stays past it.
--
--   lends used k xs            the part of k places from used on
--   gets_back used k xs part   xs, with this part put back there
use Rattle.std.proofs.Common.{◌≡◌, ◌≢◌, ℕ, ◌+◌, ◌<◌, ◌≤◌, ◌-◌, List, Some, length, take, drop, slice_set, sym, ap, ◌∙◌, arith}
use Rattle.std.proofs.lemmas.List.{drop-take, take-take, get_or-set_other, length-set, length-take, length-drop}
use Rattle.std.proofs.lemmas.List.{get_or-set_same, drop-drop, drop-set-lt}
use Rattle.std.proofs.lemmas.List.Sums.{sum_by_more, sum_by-take-le}
use Rattle.std.proofs.lemmas.Option.{slice_get_within, get_or_from_slice_get, slice_get_read}
use Rattle.std.proofs.lemmas.Slice.{take-put_mid_below, between-put_mid, drop-put_mid}
use borrow.Rule.Slice.PartMut.{put_mid, same_len_mid}
use Rattle.std.specs.List.{slice_get, sum_by}

module _ {X : Type 0} where
  pub get_set_below : (xs : List X) (n i : ℕ) (x y : X) → i < n → slice_get xs i ≡ Some x → slice_get (slice_set xs n y) i ≡ Some x
  get_set_below xs n i x y below is =
      let other : i ≢ n = λ e. absurd (omega arith) in
      let read = get_or-set_other xs n i y x other ∙ get_or_from_slice_get xs i x x is in
      slice_get_read (slice_set xs n y) (length xs) i x (sym (length-set xs n y)) (slice_get_within xs i x is) (sym read)

  pub get_set_here : (xs : List X) (n : ℕ) (y : X) → n < length xs → slice_get (slice_set xs n y) n ≡ Some y
  get_set_here xs n y within =
      slice_get_read (slice_set xs n y) (length xs) n y (sym (length-set xs n y)) within (sym (get_or-set_same xs n y y within))

  pub past_next : (xs ys : List X) (n : ℕ) (y : X) → drop n xs ≡ drop n ys → drop (n + 1) (slice_set xs n y) ≡ drop (n + 1) ys
  past_next xs ys n y past = drop-set-lt (n + 1) xs n y (omega arith) ∙ sym (drop-drop 1 n xs) ∙ ap (drop 1) past ∙ drop-drop 1 n ys

  -- the part of k places from s on
  pub part_stays : (xs ys : List X) (n s k : ℕ) → s + k ≤ n → take n ys ≡ take n xs → take k (drop s ys) ≡ take k (drop s xs)
  part_stays xs ys n s k within same =
      let cut : take (s + k) ys ≡ take (s + k) xs = sym (take-take (s + k) n ys within) ∙ ap (take (s + k)) same ∙ take-take (s + k) n xs within in
      sym (drop-take s k ys) ∙ ap (drop s) cut ∙ drop-take s k xs

  -- the terms before the i-th, and it, make no more than those before the n-th
  pub sum_below : (f : X → ℕ) (xs : List X) (i n : ℕ) (x : X) → i < n → slice_get xs i ≡ Some x
      → sum_by f (take i xs) + f x ≤ sum_by f (take n xs)
  sum_below f xs i n x below is =
      let read = ap f (get_or_from_slice_get xs i x x is) in
      let more = sum_by_more f xs i x (slice_get_within xs i x is) in
      let less = sum_by-take-le f (take n xs) (i + 1) in
      let same = ap (sum_by f) (take-take (i + 1) n xs (omega arith)) in
      omega arith

  abbrev pub lends : ℕ → ℕ → List X → List X
  lends used k xs = take (used + k - used) (drop used xs)

  abbrev pub gets_back : ℕ → ℕ → List X → List X → List X
  gets_back used k xs part = put_mid used (used + k - used) xs part

-- a list that is as before from used on
module _ {X : Type 0} (xs before : List X) (used k : ℕ) (fits : used + k ≤ length xs) (same : drop used xs ≡ drop used before) where
  pub lent : lends used k xs ≡ take k (drop used before)
  lent = ap (λ n. take n (drop used xs)) (omega arith) ∙ ap (take k) same

  module _ (part : List X) (as_long : length part ≡ length (lends used k xs)) where
    long : length part ≡ used + k - used
    long = omega (arith, length-take (used + k - used) (drop used xs), length-drop used xs)

    pub back_long : length (gets_back used k xs part) ≡ length xs
    back_long = same_len_mid used (used + k - used) xs part as_long

    pub back_below : take used (gets_back used k xs part) ≡ take used xs
    back_below = take-put_mid_below used (used + k - used) xs part used (omega arith) (omega arith)

    pub back_there : take k (drop used (gets_back used k xs part)) ≡ part
    back_there =
        ap (λ n. take n (drop used (gets_back used k xs part))) (omega arith)
        ∙ between-put_mid used (used + k - used) xs part (used + k) (omega arith) long

    pub back_past : drop (used + k) (gets_back used k xs part) ≡ drop (used + k) before
    back_past =
        drop-put_mid used (used + k - used) xs part (used + k) (omega arith) (omega arith) long
        ∙ sym (drop-drop k used xs) ∙ ap (drop k) same ∙ drop-drop k used before
