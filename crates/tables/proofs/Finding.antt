-- The first link that leads from one station to another: where one does, and what is left without it.
use Rattle.std.specs.Prelude.{◌≡◌, ℕ, suc, ◌+◌, ◌<◌, Bool, true, false, not, cond, ◌||◌, List, [], ◌∷◌, length, Some, None, is_some, nat_lt, if◌then◌else◌}
use Rattle.std.specs.List.{list_any, position, position_or_len, remove}
use Rattle.std.proofs.Common.{◌∙◌, refl, arith, sym, ap}
use Rattle.std.proofs.Math.Numerals.{one-add}
use Rattle.std.proofs.lemmas.List.{length-take-le}
use Rattle.std.proofs.lemmas.Bool.Decides.{nat_tests}
use Rattle.cost.specs.declared.link.Link.{Link}
use Rattle.routes.specs.Network.{leads}
use Rattle.ledger.specs.After.{without}

one_more : (b rest : Bool) (k n : ℕ) → rest ≡ nat_lt k n → (b || rest) ≡ nat_lt (cond (not b) (1 + k) 0) (suc n)
one_more true rest k n e = grind (arith, nat_tests)
one_more false rest k n e = grind (arith, nat_tests)

any_before_end : {X : Type 0} (p : X → Bool) (xs : List X) → list_any p xs ≡ nat_lt (position_or_len p xs) (length xs)
any_before_end p [] = refl
any_before_end p (x ∷ xs) = one_more (p x) (list_any p xs) (position_or_len p xs) (length xs) (any_before_end p xs)

some_if : {X : Type 0} (b : Bool) (x : X) → is_some (cond b (Some x) None) ≡ b
some_if true x = refl
some_if false x = refl

pub is_found : {X : Type 0} (p : X → Bool) (xs : List X) → is_some (position p xs) ≡ list_any p xs
is_found p xs = some_if (nat_lt (position_or_len p xs) (length xs)) (position_or_len p xs) ∙ sym (any_before_end p xs)

pub ruleset found = (is_found, length-take-le)

where_some : {X : Type 0} (b : Bool) (x k : X) → cond b (Some x) None ≡ Some k → (b ≡ true) × (x ≡ k)
where_some true x k e = (refl, cc e)
where_some false x k e = absurd (cc e)

module _ {K : Type 0} (a b : ℕ) where
  one_less : (found : Bool) (l : Link K) (ls : List (Link K)) (k : ℕ) → (k < length ls → without a b ls ≡ remove ls k) → cond (not found) (1 + k) 0 < suc (length ls) → (if found then ls else (l ∷ without a b ls)) ≡ remove (l ∷ ls) (cond (not found) (1 + k) 0)
  one_less true l ls k later fits = refl
  one_less false l ls k later fits = rw (later (omega arith), one-add k) refl

  without_first : (links : List (Link K)) → position_or_len (leads a b) links < length links → without a b links ≡ remove links (position_or_len (leads a b) links)
  without_first [] fits = absurd (omega (arith, fits))
  without_first (l ∷ ls) fits = one_less (leads a b l) l ls (position_or_len (leads a b) ls) (without_first ls) fits

  pub without_found : (links : List (Link K)) (k : ℕ) → position (leads a b) links ≡ Some k → (k < length links) × (without a b links ≡ remove links k)
  without_found links k found =
      let at = where_some (nat_lt (position_or_len (leads a b) links) (length links)) (position_or_len (leads a b) links) k found in
      let fits : position_or_len (leads a b) links < length links = grind (arith, nat_tests) in
      (omega (arith, fits, at.1), without_first links fits ∙ ap (remove links) at.1)
