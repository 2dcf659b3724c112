-- Filling cells one by one.
use Rattle.std.specs.Prelude.{ℕ, ◌+◌, ◌<◌, ◌≤◌, List, length, slice_set}
use Rattle.std.proofs.Common.{◌∙◌, refl, arith, ⊎_elim, inl, inr}
use Rattle.std.proofs.lemmas.List.{get_or-set_same, get_or-set_other, length-set}
use Rattle.std.proofs.lemmas.Bool.{cases_eq}
use Rattle.tables.specs.Filled.{Filled}

module _ {X : Type 0} {from : ℕ} {x : X} {xs : List X} where
  pub none_filled : Filled from from x xs xs
  none_filled = record { long = refl; inside = λ i d low high. absurd (omega arith); others = λ i d out. refl }

  pub one_filled : {place : ℕ} {ys : List X} → from ≤ place → place < length xs → Filled from place x xs ys → Filled from (place + 1) x xs (slice_set ys place x)
  one_filled {place} {ys} low within so_far = record {
    long = length-set ys place x ∙ so_far.long;
    inside = λ i d at_least below. grind (arith, cases_eq i place, so_far.inside i d, so_far.long, get_or-set_same ys place x d, get_or-set_other ys place i x d);
    others = λ i d out. get_or-set_other ys place i x d (λ e. ⊎_elim (λ (b : i < from). omega (arith, b, e, low)) (λ (a : place + 1 ≤ i). omega (arith, a, e)) out)
        ∙ so_far.others i d (⊎_elim inl (λ (a : place + 1 ≤ i). inr (omega (arith, a))) out);
  }

  pub ruleset filling = (none_filled, one_filled)
