-- The ledger after an entry that is refused, and after one that is not.
use Rattle.std.proofs.Common.{◌≡◌, List, ◌++◌, Option, Some, None, refl}
use Rattle.std.proofs.lemmas.List.Sums.{fold-append}
use Rattle.cost.specs.Kind.{Kind}
use Rattle.refusal.specs.declared.Code.{Code}
use Rattle.ledger.specs.Ledger.{Ledger}
use Rattle.ledger.specs.Log.{Entry, unless, entered, reckon}

module _ {K : Type 0} where
  pub unless_none : (refusal : Option Code) (g h : Ledger K) → refusal ≡ None → unless refusal g h ≡ h
  unless_none None g h e = refl
  unless_none (Some code) g h e = absurd (cc e)

  pub unless_some : (refusal : Option Code) (g h : Ledger K) (code : Code) → refusal ≡ Some code → unless refusal g h ≡ g
  unless_some None g h code e = absurd (cc e)
  unless_some (Some other) g h code e = refl

  -- what is reckoned from a log, the next entry goes on from
  pub reckon_on : (m : Kind K) (g : Ledger K) (log more : List (Entry K)) → reckon m g (log ++ more) ≡ reckon m (reckon m g log) more
  reckon_on m g log more = fold-append (entered m) g log more
