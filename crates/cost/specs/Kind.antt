-- A cost kind: what there is to know of costs. Values are compared by rank alone.
--
--   Kind K           the meaning of the values of K as costs: rank, zero, FAR and join
--   FAR              the rank of the cost FAR, the greatest 64-bit number
--   Same m a b       a and b are the same cost: a different cost has a different rank
--   AtMost m a b     a is at most b
--   Below m a b      a is below b
use Rattle.std.specs.Prelude.{◌≡◌, ℕ, ◌<◌, ◌≤◌}

pub record Kind (K : Type 0) : Type 0 where
  pub rank : K → ℕ
  pub zero : K
  pub far : K
  pub joined : K → K → K

abbrev pub FAR : ℕ
FAR = 18446744073709551615

abbrev pub Same : {K : Type 0} → Kind K → K → K → Type 0
Same m a b = m.rank a ≡ m.rank b

abbrev pub AtMost : {K : Type 0} → Kind K → K → K → Type 0
AtMost m a b = m.rank a ≤ m.rank b

abbrev pub Below : {K : Type 0} → Kind K → K → K → Type 0
Below m a b = m.rank a < m.rank b
