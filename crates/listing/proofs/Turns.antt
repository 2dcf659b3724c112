-- The rows of a list of sources are worked in turn: one more is worked after those that were, and the log goes on with it.
use Rattle.std.proofs.Common.{◌≡◌, ℕ, suc, ◌+◌, ◌<◌, List, [], ◌∷◌, ◌++◌, Result, Ok, Err, length, take, append_assoc, append-nil, ap, subst, sym, ◌∙◌, arith, slice_index_or}
use Rattle.std.proofs.Math.Seq.{take-suc}
use Rattle.std.proofs.lemmas.List.{map_push}
use Rattle.cost.specs.Kind.{Kind}
use Rattle.queue.specs.Meaning.{Meaning}
use Rattle.refusal.specs.declared.Refusal.{Refusal}
use Rattle.routes.specs.declared.method.Method.{Method}
use Rattle.ledger.specs.Effects.{WorkEffect}
use Rattle.ledger.specs.Ledger.{Ledger, network}
use Rattle.ledger.specs.Log.{Entry, work}
use Rattle.ledger.specs.Stands.{Stands}
use Rattle.ledger.specs.View.{View}
use Rattle.listing.specs.InTurn.{works_of}

pub one_more_taken : (xs : List ℕ) (i : ℕ) → i < length xs → take (i + 1) xs ≡ take i xs ++ slice_index_or xs i 0 ∷ []
one_more_taken xs i below = let next : i + 1 ≡ suc i = omega arith in ap (λ k. take k xs) next ∙ take-suc xs i 0 below

pub network_stays : {K : Type 0} {m : Kind K} {method : Method} {v w : View K} {a : ℕ} {queue : Meaning} (r : Result Unit Refusal) → WorkEffect m v w a method r queue → network w.ledger ≡ network v.ledger
network_stays (Ok done) effect = ap network effect.ledger
network_stays (Err why) effect = ap (λ (z : View _). network z.ledger) effect.kept

module _ {K : Type 0} (m : Kind K) (method : Method) where
  abbrev pub LogGoesOn : View K → View K → List ℕ → Type 0
  LogGoesOn v w done = (start : Ledger K) (log : List (Entry K)) → Stands m start log v → Stands m start (log ++ works_of done method) w

  pub no_work : (v : View K) → LogGoesOn v v []
  no_work v start log stands = subst (λ (z : List (Entry K)). Stands m start z v) (sym (append-nil log)) stands

  pub work_more : {v : View K} (start : Ledger K) (log : List (Entry K)) (done : List ℕ) (a : ℕ) → Stands m start ((log ++ works_of done method) ++ work a method ∷ []) v → Stands m start (log ++ works_of (done ++ a ∷ []) method) v
  work_more {v} start log done a next =
      subst (λ (z : List (Entry K)). Stands m start z v)
      (append_assoc log (works_of done method) (work a method ∷ []) ∙ ap (λ (z : List (Entry K)). log ++ z) (sym (map_push (λ b. work b method) done a)))
      next
