-- What is told of the numbers below n, and of n.
use Rattle.std.proofs.Common.{◌≡◌, ℕ, zero, suc, ◌+◌, ◌<◌, List, [], ◌∷◌, ◌++◌, append_assoc, append-nil, refl, ap, sym, ◌∙◌, add-one, arith}
use Rattle.std.proofs.lemmas.Grind.{flat_map-append}
use Rattle.std.specs.List.{flat_map, range_with_len}

range_suc : (a n b : ℕ) → a + n ≡ b → range_with_len a (suc n) ≡ range_with_len a n ++ b ∷ []
range_suc a zero b e = ap (λ k. k ∷ []) (omega arith)
range_suc a (suc n) b e = ap (λ xs. a ∷ xs) (range_suc (a + 1) n b (omega arith))

module _ (f : ℕ → List ℕ) where
  pub told_suc : (n : ℕ) → flat_map f (range_with_len 0 (suc n)) ≡ flat_map f (range_with_len 0 n) ++ f n
  told_suc n =
      ap (flat_map f) (range_suc 0 n n (omega arith))
      ∙ flat_map-append f (range_with_len 0 n) (n ∷ [])
      ∙ ap (λ xs. flat_map f (range_with_len 0 n) ++ xs) (append-nil (f n))

  pub text_more : (n : ℕ) (before text text' : List ℕ) → text ≡ before ++ flat_map f (range_with_len 0 n) → text' ≡ text ++ f n
      → text' ≡ before ++ flat_map f (range_with_len 0 (n + 1))
  text_more n before text text' so_far next =
      next
      ∙ ap (λ xs. xs ++ f n) so_far
      ∙ append_assoc before (flat_map f (range_with_len 0 n)) (f n)
      ∙ ap (λ xs. before ++ xs) (sym (told_suc n))
      ∙ ap (λ k. before ++ flat_map f (range_with_len 0 k)) (sym (add-one n))

-- where the same is told of each number, the same is told of all
pub told_alike : (f g : ℕ → List ℕ) (n : ℕ) → ((k : ℕ) → k < n → f k ≡ g k) → flat_map f (range_with_len 0 n) ≡ flat_map g (range_with_len 0 n)
told_alike f g zero same = refl
told_alike f g (suc n) same =
    let before : flat_map f (range_with_len 0 n) ≡ flat_map g (range_with_len 0 n) = told_alike f g n (λ k below. same k (omega arith)) in
    let last : f n ≡ g n = same n (omega arith) in
    told_suc f n ∙ rw (before, last) (sym (told_suc g n))
