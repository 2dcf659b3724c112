-- What the code of each call shows: how it answers by the plan as it was before, and what it leaves. A refused call changes nothing.
--
--   way v a b         the way back from b by the predecessors of row a
--   AllCleared m v    each row of a station is cleared
--   UnmarkedClear m v   each row of a station that is not marked is cleared
--   LinksEffect       a call that changes the links: refused as given, else it leaves the ledger given, and all rows cleared if those not
--                     marked were
--   LayEffect         laying a link
--   LiftEffect        lifting one
--   WorkEffect        working a row: where it is accepted, a run ends with the row and queue that are left; the other rows stay
--   CostEffect        asking for a cost
--   RouteEffect       asking for a route: the way back is counted, and written at the list's start
--   CheckEffect       testing a supplier's row: it is accepted if no station fails, and else one that does is named
use Rattle.std.specs.Prelude.{◌≡◌, ◌≢◌, ℕ, ◌<◌, ◌++◌, false, nat_lt, List, length, drop, Option, Some, None, Result, IfOk, OnOk, OnErr, MatchResult}
use Rattle.cost.specs.Kind.{Kind}
use Rattle.queue.specs.Meaning.{Meaning}
use Rattle.refusal.specs.Code.{bare}
use Rattle.refusal.specs.First.{refused_if, told}
use Rattle.refusal.specs.declared.Code.{Code}
use Rattle.refusal.specs.declared.Refusal.{Refusal}
use Rattle.routes.specs.Fails.{NoneFails}
use Rattle.routes.specs.declared.method.Method.{Method}
use Rattle.ledger.specs.Ledger.{Ledger, network}
use Rattle.ledger.specs.Refusals.{lay_refusal, lift_refusal, work_refusal, cost_refusal, check_refusal}
use Rattle.ledger.specs.After.{after_lay, after_lift, after_work}
use Rattle.ledger.specs.View.{View, cleared, task_of, given}
use Rattle.ledger.specs.RouteAnswer.{route_refusal}
use Rattle.ledger.specs.CheckAnswer.{Faulty}
use Rattle.ledger.specs.Traced.{traced}
use Rattle.ledger.specs.Worked.{EndsIn}

abbrev pub way : {K : Type 0} → View K → ℕ → ℕ → List ℕ
way v a b = traced (v.rows a) v.ledger.stations b

pub record CostEffect {K : Type 0} (v : View K) (a b : ℕ) (r : Result K Refusal) : Type 0 where
  pub refusal : told r ≡ cost_refusal v.ledger a b
  pub value : IfOk r (λ c. c ≡ (v.rows a).costs b)

module _ {K : Type 0} (m : Kind K) where
  abbrev pub AllCleared : View K → Type 0
  AllCleared v = (a : ℕ) → a < v.ledger.stations → v.rows a ≡ cleared m

  abbrev pub UnmarkedClear : View K → Type 0
  UnmarkedClear v = (a : ℕ) → a < v.ledger.stations → v.ledger.marked a ≡ false → v.rows a ≡ cleared m

  module _ {T : Type 0} where
    pub record LinksEffect (why : Option Code) (g : Ledger K) (before after : View K) (r : Result T Refusal) : Type 0 where
      pub refusal : told r ≡ why
      pub ledger : OnOk r (after.ledger ≡ g)
      pub rows : OnOk r (UnmarkedClear before → AllCleared after)
      pub kept : OnErr r (after ≡ before)

    module _ (before after : View K) where
      abbrev pub LayEffect : ℕ → ℕ → K → Result T Refusal → Type 0
      LayEffect a b c r = LinksEffect (lay_refusal m before.ledger a b c) (after_lay before.ledger a b c) before after r

      abbrev pub LiftEffect : ℕ → ℕ → Result T Refusal → Type 0
      LiftEffect a b r = LinksEffect (lift_refusal before.ledger a b) (after_lift before.ledger a b) before after r

      pub record WorkEffect (a : ℕ) (method : Method) (r : Result T Refusal) (queue : Meaning) : Type 0 where
        pub refusal : told r ≡ work_refusal before.ledger a
        pub ledger : OnOk r (after.ledger ≡ after_work before.ledger a)
        pub ends : OnOk r (EndsIn m (task_of before a method) (after.rows a) queue)
        pub others : OnOk r ((b : ℕ) → b < before.ledger.stations → b ≢ a → after.rows b ≡ before.rows b)
        pub kept : OnErr r (after ≡ before)

  module _ (v : View K) (a b : ℕ) where
    pub record RouteEffect (old new : List ℕ) (r : Result ℕ Refusal) : Type 0 where
      pub refused : (code : Code) → route_refusal m v.ledger (v.rows a) a b ≡ Some code → told r ≡ Some code
      pub short : route_refusal m v.ledger (v.rows a) a b ≡ None → told r ≡ refused_if (nat_lt (length old) (length (way v a b))) (bare 12) None
      pub written : IfOk r (λ count. (count ≡ length (way v a b)) × (new ≡ way v a b ++ drop count old))
      pub kept : OnErr r (new ≡ old)

  module _ {T : Type 0} (g : Ledger K) (a : ℕ) (costs : List K) (predecessors : List ℕ) where
    pub record CheckEffect (r : Result T Refusal) : Type 0 where
      pub refused : (code : Code) → check_refusal g a costs predecessors ≡ Some code → told r ≡ Some code
      pub tested : check_refusal g a costs predecessors ≡ None
          → MatchResult r (λ x. NoneFails m (network g) a (given m costs predecessors)) (Faulty m g a costs predecessors)
