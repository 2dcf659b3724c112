-- What a station offers over its links, all of them, is fair.
use Rattle.std.proofs.Common.{◌≡◌, List, ℕ, Bool, true, inl, Option, None, refl, sym, ◌∙◌, arith}
use Rattle.std.specs.List.{Contains}
use Rattle.std.proofs.lemmas.Bool.{true≢false}
use Rattle.cost.specs.Kind.{Kind}
use Rattle.cost.specs.Laws.{Laws}
use Rattle.cost.specs.declared.link.Link.{Link}
use Rattle.routes.specs.Walk.{SomeWalk}
use Rattle.routes.specs.Task.{Task}
use Rattle.routes.specs.State.{State}
use Rattle.routes.specs.Offers.{Offer}
use Rattle.routes.specs.Methods.{plain}
use Rattle.routes.specs.declared.method.Method.TheVariants.{Prune}
use Rattle.routes.proofs.JoinedWalks.{goes_on_to}
use Rattle.routes.proofs.MadeOffers.{over, all_over, each_over, in_over}
use Rattle.routes.proofs.Labels.{Preceded}
use Rattle.routes.proofs.Steps.{OfferedTo, Fair}

module _ {K : Type 0} {m : Kind K} (laws : Laws m) (task : Task K) (xs : List ℕ) (s : State K) (t : ℕ) (walk : SomeWalk m task.network task.source t (s.row.costs t)) where
  -- over links that are picked
  module _ (first : ℕ → Option ℕ) (pick : Link K → Bool) where
    pub given_over : (o : Offer K) → Contains (all_over m s t task.network first pick) o → Preceded m task o.predecessor o.station o.cost
    given_over =
        each_over m s t task.network first pick (λ o. Preceded m task o.predecessor o.station o.cost)
        (λ l laid from. record { station = t; is = refl; last = goes_on_to laws l walk laid from refl })

    pub covers_over : (l : Link K) → Contains task.network.links l → l.from ≡ t → pick l ≡ true → OfferedTo m task (all_over m s t task.network first pick) l.to (m.joined (s.row.costs t) l.cost)
    covers_over l laid from picked = record { offer = over m s t task.network first pick l; made = in_over m s t task.network first pick l laid from picked; here = refl; at_most = omega arith }

    pub all_put : (o : Offer K) → Contains (all_over m s t task.network first pick) o → o.puts ≡ true
    all_put = each_over m s t task.network first pick (λ o. o.puts ≡ true) (λ l laid from. refl)

  -- over all
  pub fair_plain : (task.method ≡ Prune → ⊥) → Fair m task xs s t (plain m task s t)
  fair_plain other = record {
    given = λ o has below. given_over (λ v. None) (λ l. true) o has;
    firsts = λ prune. absurd (other prune);
    covers = λ l laid from. inl (covers_over (λ v. None) (λ l. true) l laid from refl);
    goes_on = λ o has put. absurd (true≢false (sym (all_put (λ v. None) (λ l. true) o has) ∙ put));
  }
