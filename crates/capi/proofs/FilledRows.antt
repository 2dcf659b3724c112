-- A table is copied row by row: one more row stands after those that did.
use Rattle.std.specs.Prelude.{◌≡◌, ℕ, suc, ◌+◌, ◌*◌, ◌-◌, ◌≤◌, List, [], ◌++◌, length, take, drop}
use Rattle.std.specs.List.{flat_map, range_with_len}
use Rattle.std.proofs.Common.{◌∙◌, zero, arith, ap, sym, add-one, append-nil, append_assoc, suc-mul, zero-mul}
use Rattle.std.proofs.lemmas.List.{drop_all, drop_at, drop-drop, length-append, length-drop, take_all, take_at}
use Rattle.listing.proofs.Ranges.{told_suc}
use borrow.Rule.Slice.PartMut.{put_mid}

module _ (f : ℕ → List ℕ) (n : ℕ) (each : (b : ℕ) → length (f b) ≡ n) where
  abbrev rows : ℕ → List ℕ
  rows a = flat_map f (range_with_len 0 a)

  rows_more : (a : ℕ) → rows (a + 1) ≡ rows a ++ f a
  rows_more a = ap rows (add-one a) ∙ told_suc f a

  pub length_rows : (a : ℕ) → length (rows a) ≡ a * n
  length_rows zero = sym (zero-mul n)
  length_rows (suc a) =
      ap (λ (l : List ℕ). length l) (told_suc f a) ∙ length-append (rows a) (f a)
      ∙ omega (arith, length_rows a, each a, suc-mul a n)

  module _ (a : ℕ) (xs : List ℕ) (room : a * n + n ≤ length xs) where
    abbrev so_far : List ℕ
    so_far = rows a ++ drop (a * n) xs

    abbrev lent : List ℕ
    lent = take (length so_far - a * n) (drop (a * n) so_far)

    long : length so_far - a * n ≡ length (drop (a * n) xs)
    long = omega (arith, length-append (rows a) (drop (a * n) xs), length_rows a)

    rest : drop (a * n) so_far ≡ drop (a * n) xs
    rest = drop_at (rows a) (drop (a * n) xs) (a * n) (length_rows a)

    lent_is : lent ≡ drop (a * n) xs
    lent_is = ap (take (length so_far - a * n)) rest ∙ take_all (length so_far - a * n) (drop (a * n) xs) (omega (arith, long))

    none_past : drop (length so_far - a * n) (drop (a * n) so_far) ≡ []
    none_past = ap (drop (length so_far - a * n)) rest ∙ drop_all (length so_far - a * n) (drop (a * n) xs) (omega (arith, long))

    further : drop n (drop (a * n) xs) ≡ drop ((a + 1) * n) xs
    further = drop-drop n (a * n) xs ∙ ap (λ k. drop k xs) (omega (arith, suc-mul a n))

    pub filled_more : put_mid (a * n) (length so_far - a * n) so_far (f a ++ drop n lent) ≡ rows (a + 1) ++ drop ((a + 1) * n) xs
    filled_more =
        ap (λ (front : List ℕ). front ++ ((f a ++ drop n lent) ++ drop (length so_far - a * n) (drop (a * n) so_far))) (take_at (rows a) (drop (a * n) xs) (a * n) (length_rows a))
        ∙ ap (λ (end : List ℕ). rows a ++ ((f a ++ drop n lent) ++ end)) none_past
        ∙ ap (λ (l : List ℕ). rows a ++ l) (append-nil (f a ++ drop n lent))
        ∙ ap (λ (l : List ℕ). rows a ++ (f a ++ drop n l)) lent_is
        ∙ ap (λ (l : List ℕ). rows a ++ (f a ++ l)) further
        ∙ sym (append_assoc (rows a) (f a) (drop ((a + 1) * n) xs))
        ∙ ap (λ (l : List ℕ). l ++ drop ((a + 1) * n) xs) (sym (rows_more a))

    -- the list that is lent has places for a row
    room_lent : n ≤ length lent
    room_lent = omega (arith, ap (λ (l : List ℕ). length l) lent_is, length-drop (a * n) xs, room)

    module _ (k : ℕ) (list after : List ℕ) (same : k ≡ n) (begun : list ≡ so_far) where
      abbrev part : List ℕ
      part = take (length list - a * k) (drop (a * k) list)

      pub room_in_part : n ≤ length part
      room_in_part = rw (same, begun) room_lent

      pub filled_after : after ≡ f a ++ drop n part → put_mid (a * k) (length list - a * k) list after ≡ rows (a + 1) ++ drop ((a + 1) * n) xs
      filled_after written = rw (written, same, begun) filled_more
