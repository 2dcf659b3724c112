-- Row after row is worked: the stations and links stay, and each row is marked.
use Rattle.std.proofs.Common.{◌≡◌, ℕ, ◌+◌, ◌<◌, true, List, [], ◌∷◌, ◌++◌, Result, Ok, Err, append_assoc, refl, subst, ap, sym, ◌∙◌, ⊎_elim, arith}
use Rattle.std.proofs.lemmas.Bool.{cases_eq}
use Rattle.std.proofs.lemmas.Bool.Decides.{nat_tests}
use Rattle.std.proofs.lemmas.List.FromFn.{map-range_with_len_more}
use Rattle.cost.specs.Kind.{Kind}
use Rattle.queue.specs.Meaning.{Meaning}
use Rattle.refusal.specs.declared.Refusal.{Refusal}
use Rattle.routes.specs.Network.{Network}
use Rattle.routes.specs.declared.method.Method.{Method}
use Rattle.ledger.specs.Effects.{WorkEffect}
use Rattle.ledger.specs.Ledger.{Ledger, network}
use Rattle.ledger.specs.Log.{Entry, work}
use Rattle.ledger.specs.Stands.{Stands}
use Rattle.ledger.specs.View.{View}
use Rattle.listing.specs.AllRows.{works}

-- the rows below n are marked in w, and v had the same stations and links
pub record Marked {K : Type 0} (v w : View K) (n : ℕ) : Type 0 where
  pub network : network w.ledger ≡ network v.ledger
  pub below : (a : ℕ) → a < n → w.ledger.marked a ≡ true

module _ {K : Type 0} (m : Kind K) (method : Method) where
  pub none_marked : (v : View K) → Marked v v 0
  none_marked v = record { network = refl; below = λ a under. absurd (omega (arith, under)) }

  pub one_marked : {v w x : View K} {n : ℕ} {queue : Meaning} (r : Result Unit Refusal) → n < v.ledger.stations → WorkEffect m w x n method r queue
      → Marked v w n → Marked v x (n + 1)
  one_marked {v} {w} {x} {n} (Ok done) there effect so_far = record {
    network = ap network effect.ledger ∙ so_far.network;
    below = λ a under. ap (λ (g : Ledger K). g.marked a) effect.ledger
        ∙ ⊎_elim (λ (here : a ≡ n). grind (arith, nat_tests, here))
        (λ other. let on = so_far.below a (omega (arith, under, other)) in grind (arith, nat_tests, on)) (cases_eq a n);
  }
  one_marked {v} {w} {x} {n} (Err why) there effect so_far =
      let same : w.ledger.stations ≡ v.ledger.stations = ap (λ (net : Network K). net.stations) so_far.network in
      let told = effect.refusal in
      let here : w.ledger.marked n ≡ true = grind (arith, nat_tests, told, same, there) in
      subst (λ (z : View K). Marked v z (n + 1)) (sym effect.kept)
      (record {
        network = so_far.network;
        below = λ a under. ⊎_elim (λ (e : a ≡ n). rw e here) (λ other. so_far.below a (omega (arith, under, other))) (cases_eq a n);
      })

  -- the log goes on with a work more
  pub worked_on : (start : Ledger K) (log : List (Entry K)) {v : View K} (n : ℕ) → Stands m start ((log ++ works n method) ++ work n method ∷ []) v
      → Stands m start (log ++ works (n + 1) method) v
  worked_on start log {v} n next =
      let more : works {K = K} (n + 1) method ≡ works n method ++ work n method ∷ [] =
      map-range_with_len_more (λ a. work a method) 0 n n (omega arith) in
      subst (λ (z : List (Entry K)). Stands m start z v)
      (append_assoc log (works n method) (work n method ∷ []) ∙ ap (λ (z : List (Entry K)). log ++ z) (sym more))
      next
