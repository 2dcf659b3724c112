-- What stands in a list: in a longer one, and in one that is filtered, mapped or counted off.
use Rattle.std.proofs.Common.{◌≡◌, ℕ, zero, suc, ◌<◌, List, [], ◌∷◌, ◌⊎◌, inl, inr, Bool, true, false, cond, refl, sym, ap, ◌∙◌, map, length, get_or, arith, ⊎_elim}
use Rattle.std.proofs.lemmas.List.{get_or-map, length-map}
use Rattle.std.proofs.lemmas.List.Elements.{All-contains, All-contains_itself, All-filter, All-map, Contains-get_or, filter_passes}
use Rattle.std.proofs.lemmas.List.Folds.{Any-from_list_any, list_any_at}
use Rattle.std.proofs.lemmas.List.FromFn.{length-range_with_len, get_or-range_with_len}
use Rattle.std.specs.List.{Contains, list_any, filter, range_with_len}

module _ {X : Type 0} where
  -- nothing stands in the empty list
  pub in_none : {x : X} → Contains [] x → ⊥
  in_none has = omega (arith, has.1)

  -- in a list with one more in front
  pub in_first : (y : X) (ys : List X) → Contains (y ∷ ys) y
  in_first y ys = (0, omega arith, refl)

  pub in_later : (y : X) (ys : List X) (x : X) → Contains ys x → Contains (y ∷ ys) x
  in_later y ys x has = (suc has.0, omega (arith, has.1), has.2)

  in_cases_at : (y : X) (ys : List X) (x : X) (k : ℕ) → k < length (y ∷ ys) → get_or (y ∷ ys) k x ≡ x → (x ≡ y) ⊎ Contains ys x
  in_cases_at y ys x zero l e = inl (sym e)
  in_cases_at y ys x (suc k) l e = inr (k, omega arith, e)

  pub in_cases : (y : X) (ys : List X) (x : X) → Contains (y ∷ ys) x → (x ≡ y) ⊎ Contains ys x
  in_cases y ys x has = in_cases_at y ys x has.0 has.1 has.2

  module _ (p : X → Bool) where
    -- where the test passes at an element, and where it passes at none
    pub in_from_any : (xs : List X) → list_any p xs ≡ true → (x : X) × Contains xs x × (p x ≡ true)
    in_from_any xs e = let some = Any-from_list_any p xs e in (some.1, (some.0, some.2, some.3), some.4)

    pub any_from_in : (xs : List X) (x : X) → Contains xs x → p x ≡ true → list_any p xs ≡ true
    any_from_in xs x has e = list_any_at p xs has.0 x has.1 (ap p has.2 ∙ e)

    -- in a filtered list
    kept : (b : Bool) (y : X) (zs : List X) (x : X) → (x ≡ y) × (b ≡ true) ⊎ Contains zs x → Contains (cond b (y ∷ zs) zs) x
    kept true y zs x where_from = ⊎_elim (λ here. rw (here.0) (in_first y zs)) (in_later y zs x) where_from
    kept false y zs x where_from = ⊎_elim (λ here. absurd (cc here.1)) (λ later. later) where_from

    pub in_filter : (xs : List X) (x : X) → Contains xs x → p x ≡ true → Contains (filter p xs) x
    in_filter [] x has e = absurd (in_none has)
    in_filter (y ∷ ys) x has e =
        kept (p y) y (filter p ys) x (⊎_elim (λ same. inl (same, ap p (sym same) ∙ e)) (λ later. inr (in_filter ys x later e)) (in_cases y ys x has))

    pub in_from_filter : (xs : List X) (x : X) → Contains (filter p xs) x → Contains xs x × (p x ≡ true)
    in_from_filter xs x has = (
      All-contains (Contains xs) (filter p xs) x (All-filter p (Contains xs) xs (All-contains_itself xs)) has,
      All-contains (λ z. p z ≡ true) (filter p xs) x (filter_passes p xs) has,
    )

  -- in a mapped list
  module _ {Y : Type 0} (f : X → Y) where
    pub in_map : (xs : List X) (x : X) → Contains xs x → Contains (map f xs) (f x)
    in_map xs x has = (has.0, omega (arith, length-map xs f, has.1), get_or-map f xs has.0 x (f x) has.1 ∙ ap f has.2)

    pub in_from_map : (xs : List X) (y : Y) → Contains (map f xs) y → (x : X) × Contains xs x × (f x ≡ y)
    in_from_map xs y has =
        All-contains (λ z. (x : X) × Contains xs x × (f x ≡ z)) (map f xs) y
        (All-map (λ z. (x : X) × Contains xs x × (f x ≡ z)) f xs (λ k d l. (get_or xs k d, Contains-get_or xs k d l, refl))) has

-- among the numbers below n
pub in_range : (n v : ℕ) → v < n → Contains (range_with_len 0 n) v
in_range n v l = (v, omega (arith, length-range_with_len 0 n), omega (arith, get_or-range_with_len 0 n v v l))

pub in_from_range : (n v : ℕ) → Contains (range_with_len 0 n) v → v < n
in_from_range n v has =
    let long = length-range_with_len 0 n in
    omega (arith, has.1, has.2, get_or-range_with_len 0 n has.0 v (omega (arith, has.1)))
