-- The site log of a plan, and the ledger that is reckoned from it.
--
--   Entry K                a call with its arguments, be it refused or not: a link laid or lifted, a row worked, a cost or a route asked
--                          for, a supplier's row tested
--   unless refusal g h     g where there is a refusal, else h
--   entered m g e          the ledger g after the entry e, which changes it only if it lays, lifts or works and is not refused
--   reckon m start log     the ledger after all entries of the log, from the ledger at the start on
use Rattle.std.specs.Prelude.{ℕ, List, Option, Some, None}
use Rattle.std.specs.List.{fold}
use Rattle.cost.specs.Kind.{Kind}
use Rattle.refusal.specs.declared.Code.{Code}
use Rattle.routes.specs.declared.method.Method.{Method}
use Rattle.ledger.specs.Ledger.{Ledger}
use Rattle.ledger.specs.Refusals.{lay_refusal, lift_refusal, work_refusal}
use Rattle.ledger.specs.After.{after_lay, after_lift, after_work}

pub data Entry (K : Type 0) : Type 0 where
  lay : ℕ → ℕ → K → Entry K
  lift : ℕ → ℕ → Entry K
  work : ℕ → Method → Entry K
  cost : ℕ → ℕ → Entry K
  route : ℕ → ℕ → ℕ → Entry K
  check : ℕ → List K → List ℕ → Entry K

module _ {K : Type 0} where
  abbrev pub unless : Option Code → Ledger K → Ledger K → Ledger K
  unless None g h = h
  unless (Some code) g h = g

  abbrev pub entered : Kind K → Ledger K → Entry K → Ledger K
  entered m g (lay a b c) = unless (lay_refusal m g a b c) g (after_lay g a b c)
  entered m g (lift a b) = unless (lift_refusal g a b) g (after_lift g a b)
  entered m g (work a method) = unless (work_refusal g a) g (after_work g a)
  entered m g (cost a b) = g
  entered m g (route a b places) = g
  entered m g (check a costs predecessors) = g

  abbrev pub reckon : Kind K → Ledger K → List (Entry K) → Ledger K
  reckon m start log = fold (entered m) start log
