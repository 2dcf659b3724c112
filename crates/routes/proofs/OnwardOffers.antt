-- What a station that is taken offers, by any method: for a station, at no lower cost than its own label.
use Rattle.std.proofs.Common.{◌≡◌, ◌≢◌, ℕ, ◌<◌, ◌≤◌, Bool, true, Option, Some, None, refl}
use Rattle.std.specs.List.{Contains}
use Rattle.cost.specs.Kind.{Kind}
use Rattle.cost.specs.Laws.{Laws, ZeroLeast}
use Rattle.cost.specs.declared.link.Link.{Link}
use Rattle.routes.specs.Row.{Row}
use Rattle.routes.specs.Task.{Task, Workable}
use Rattle.routes.specs.State.{State}
use Rattle.routes.specs.Offers.{Offer}
use Rattle.routes.specs.Methods.{reuse, by_method, offers}
use Rattle.routes.specs.declared.method.Method.{Method}
use Rattle.routes.specs.declared.method.Method.TheVariants.{Plain, Reuse, Prune}
use Rattle.routes.proofs.Costs.{on_no_less}
use Rattle.routes.proofs.MadeOffers.{all_over, each_over, each_along}

-- an offer for one of n stations, at no lower rank than x, that is sure to put the station where P holds
pub record Onward {K : Type 0} (m : Kind K) (n : ℕ) (P : Type 0) (x : ℕ) (o : Offer K) : Type 0 where
  pub there : o.station < n
  pub no_lower : x ≤ m.rank o.cost
  pub puts : P → o.puts ≡ true

module _ {K : Type 0} {m : Kind K} (laws : Laws m) (zero_least : ZeroLeast m) {task : Task K} (workable : Workable task) (s : State K) (t : ℕ) where
  abbrev IsOnward : Type 0 → Offer K → Type 0
  IsOnward P = Onward m task.network.stations P (m.rank (s.row.costs t))

  over_onward : (P : Type 0) (first : ℕ → Option ℕ) (pick : Link K → Bool) → (o : Offer K) → Contains (all_over m s t task.network first pick) o → IsOnward P o
  over_onward P first pick =
      each_over m s t task.network first pick (IsOnward P) (λ l laid from. record {
        there = (workable.between l laid).1;
        no_lower = on_no_less laws zero_least (s.row.costs t) l.cost;
        puts = λ p. refl;
      })

  reuse_onward : (P : Type 0) → (P → ⊥) → (q : Option (Row K)) → (o : Offer K) → Contains (reuse m task s t q) o → IsOnward P o
  reuse_onward P never None = over_onward P _ _
  reuse_onward P never (Some row) =
      each_along m s t task.network.stations row (IsOnward P) (λ v there. record {
        there = there;
        no_lower = on_no_less laws zero_least (s.row.costs t) (row.costs v);
        puts = λ p. absurd (never p);
      })

  method_onward : (method : Method) → (o : Offer K) → Contains (by_method m task s t method) o → IsOnward (method ≢ Reuse) o
  method_onward Plain = over_onward (Plain ≢ Reuse) _ _
  method_onward Reuse = reuse_onward (Reuse ≢ Reuse) (λ other. other refl) (task.rows t)
  method_onward Prune = over_onward (Prune ≢ Reuse) _ _

  pub offers_onward : (o : Offer K) → Contains (offers m task s t) o → IsOnward (task.method ≢ Reuse) o
  offers_onward = method_onward task.method
