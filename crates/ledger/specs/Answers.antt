-- What laying, lifting and working have to answer, and asking for a cost, by the ledger that was reckoned from the log: the first refusal
-- that fits, and else they are accepted.
--
--   LayAnswer, LiftAnswer    no more than that
--   WorkAnswer               where it is accepted, row and queue are as after working the row
--   CostAnswer               where it is accepted, the answer is the row's cost, and least
use Rattle.std.specs.Prelude.{◌≡◌, ℕ, Result, IfOk, OnOk}
use Rattle.cost.specs.Kind.{Kind}
use Rattle.queue.specs.Meaning.{Meaning}
use Rattle.refusal.specs.First.{told}
use Rattle.refusal.specs.declared.Refusal.{Refusal}
use Rattle.routes.specs.Least.{Least}
use Rattle.routes.specs.Row.{Row}
use Rattle.routes.specs.declared.method.Method.{Method}
use Rattle.ledger.specs.Ledger.{Ledger, network}
use Rattle.ledger.specs.Refusals.{lay_refusal, lift_refusal, work_refusal, cost_refusal}
use Rattle.ledger.specs.Worked.{Worked}

abbrev pub LayAnswer : {K T : Type 0} → Kind K → Ledger K → ℕ → ℕ → K → Result T Refusal → Type 0
LayAnswer m g a b c r = told r ≡ lay_refusal m g a b c

abbrev pub LiftAnswer : {K T : Type 0} → Ledger K → ℕ → ℕ → Result T Refusal → Type 0
LiftAnswer g a b r = told r ≡ lift_refusal g a b

module _ {K : Type 0} (m : Kind K) (g : Ledger K) where
  module _ {T : Type 0} (rows : ℕ → Row K) (a : ℕ) (method : Method) (r : Result T Refusal) where
    pub record WorkAnswer (row : Row K) (queue : Meaning) : Type 0 where
      pub refusal : told r ≡ work_refusal g a
      pub worked : OnOk r (Worked m (record { ledger = g; rows = rows }) a method row queue)

  pub record CostAnswer (row : Row K) (a b : ℕ) (r : Result K Refusal) : Type 0 where
    pub refusal : told r ≡ cost_refusal g a b
    pub least : IfOk r (λ c. (c ≡ row.costs b) × Least m (network g) a b c)
