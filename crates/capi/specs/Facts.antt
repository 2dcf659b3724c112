-- What a call tells its caller in C: a number, and facts in a list of the caller's.
--
--   told_in xs facts      the facts xs at the start of the list facts, as many as it has places for; the places after them stay
--   layer_number l        the number of a layer: 0 for field, 1 for record
--   facts_of f            the facts of a refusal as numbers
--   Accepts xs facts facts' r    the number is 0, and the facts are xs
--   Refuses c facts facts' r     the number is that of the refusal c, and the facts are its own
--   Answered refusal kept facts facts' r accepted
--                         the call is refused where there is a refusal, and then what is said to be kept is; else it is accepted as said
use Rattle.std.specs.Prelude.{◌≡◌, ℕ, List, [], ◌∷◌, ◌++◌, length, take, drop, Option, Some, None}
use Rattle.refusal.specs.declared.Code.{Code}
use Rattle.refusal.specs.declared.Facts.{Facts}
use Rattle.refusal.specs.declared.Facts.TheVariants.{Bare, AtStation, AtRecord, Below}
use Rattle.refusal.specs.declared.Layer.{Layer}
use Rattle.refusal.specs.declared.Layer.TheVariants as layer

abbrev pub told_in : List ℕ → List ℕ → List ℕ
told_in xs facts = take (length facts) xs ++ drop (length xs) facts

abbrev pub layer_number : Layer → ℕ
layer_number layer.Field = 0
layer_number layer.Record = 1

abbrev pub facts_of : Facts → List ℕ
facts_of Bare = []
facts_of (AtStation f) = f.station ∷ f.cause ∷ []
facts_of (AtRecord index) = index ∷ []
facts_of (Below index number l) = index ∷ number ∷ layer_number l ∷ []

pub record Accepts (xs facts facts' : List ℕ) (r : ℕ) : Type 0 where
  pub number : r ≡ 0
  pub told : facts' ≡ told_in xs facts

pub record Refuses (c : Code) (facts facts' : List ℕ) (r : ℕ) : Type 0 where
  pub number : r ≡ c.number
  pub told : facts' ≡ told_in (facts_of c.facts) facts

abbrev pub Answered : Option Code → Type 0 → List ℕ → List ℕ → ℕ → Type 0 → Type 0
Answered (Some c) kept facts facts' r accepted = Refuses c facts facts' r × kept
Answered None kept facts facts' r accepted = accepted
