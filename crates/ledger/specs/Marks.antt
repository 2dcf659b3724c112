-- What a mark says of the log.
--
--   Clears m g e                 the entry e lays or lifts a link, and the ledger g has no refusal for it
--   WorkedSince m start log a    row a was worked at some entry of the log that was not refused, and no entry after that one laid or
--                                lifted a link; each is judged by the ledger that was reckoned up to it
use Rattle.std.specs.Prelude.{◌≡◌, ℕ, List, ◌∷◌, ◌++◌, None}
use Rattle.cost.specs.Kind.{Kind}
use Rattle.routes.specs.declared.method.Method.{Method}
use Rattle.ledger.specs.Ledger.{Ledger}
use Rattle.ledger.specs.Refusals.{lay_refusal, lift_refusal, work_refusal}
use Rattle.ledger.specs.Log.{Entry, lay, lift, work, cost, route, check, reckon}

abbrev pub Clears : {K : Type 0} → Kind K → Ledger K → Entry K → Type 0
Clears m g (lay a b c) = lay_refusal m g a b c ≡ None
Clears m g (lift a b) = lift_refusal g a b ≡ None
Clears m g (work a method) = ⊥
Clears m g (cost a b) = ⊥
Clears m g (route a b places) = ⊥
Clears m g (check a costs predecessors) = ⊥

pub record WorkedSince {K : Type 0} (m : Kind K) (start : Ledger K) (log : List (Entry K)) (a : ℕ) : Type 0 where
  pub before : List (Entry K)
  pub method : Method
  pub after : List (Entry K)
  pub parts : log ≡ before ++ work a method ∷ after
  pub accepted : work_refusal (reckon m start before) a ≡ None
  pub none_clears : (early late : List (Entry K)) (e : Entry K) → after ≡ early ++ e ∷ late
      → Clears m (reckon m start (before ++ work a method ∷ early)) e → ⊥
