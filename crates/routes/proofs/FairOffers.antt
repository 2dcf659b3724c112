-- What a station of the lowest rank offers by each method is fair.
use Rattle.std.proofs.Common.{◌≡◌, [], ◌∷◌, ◌++◌, ℕ, ◌<◌, List, Option, Some, None, is_some, refl, ap, ◌≢◌, arith}
use Rattle.cost.specs.Kind.{Kind, Below}
use Rattle.cost.specs.Laws.{Laws, Strict, ZeroLeast}
use Rattle.queue.specs.Meaning.{Lowest}
use Rattle.routes.specs.Walk.{SomeWalk}
use Rattle.routes.specs.Row.{Row}
use Rattle.routes.specs.Task.{Task, Workable, RowsRight}
use Rattle.routes.specs.State.{State}
use Rattle.routes.specs.Methods.{reuse, by_method, offers}
use Rattle.routes.specs.declared.method.Method.{Method}
use Rattle.routes.specs.declared.method.Method.TheVariants.{Plain, Reuse, Prune}
use Rattle.routes.proofs.Standing.{Standing, last_in_push}
use Rattle.routes.proofs.Labels.{Labels, walked, final}
use Rattle.routes.proofs.Steps.{Fair}
use Rattle.routes.proofs.FairLinks.{fair_plain}
use Rattle.routes.proofs.FairRow.{fair_along}
use Rattle.routes.proofs.FairPruned.{fair_prune}

module _ {K : Type 0} {m : Kind K} (laws : Laws m) (zero_least : ZeroLeast m) {task : Task K} (workable : Workable task) {xs : List ℕ} {s : State K} (labels : Labels m task xs s)
    {P : Type 0} {x : ℕ} (standing : Standing m task.network.stations P xs x s) {t : ℕ} (lowest : Lowest s.queue t)
  where
    t_there : t < task.network.stations
    t_there = (standing.waiting t (ap is_some lowest.waits)).0

    t_below : Below m (s.row.costs t) m.far
    t_below = let near = (standing.waiting t (ap is_some lowest.waits)).1 in let far = laws.far_rank in omega arith

    walk : SomeWalk m task.network task.source t (s.row.costs t)
    walk = walked m task laws zero_least labels t t_below

    fair_reuse : RowsRight m task (xs ++ t ∷ []) → (task.method ≡ Prune → ⊥) → (q : Option (Row K)) → task.rows t ≡ q → Fair m task xs s t (reuse m task s t q)
    fair_reuse rows_right other None is = fair_plain laws task xs s t walk other
    fair_reuse rows_right other (Some row) is = fair_along laws zero_least task workable.between xs s t walk t_there row (rows_right.right t row (last_in_push xs t) is) other

    -- worked rows are read but by plain, and a strict law is used by prune alone
    fair_by : ((task.method ≢ Plain) → RowsRight m task (xs ++ t ∷ [])) → (task.method ≡ Prune → Strict m) → (method : Method) → task.method ≡ method → Fair m task xs s t (by_method m task s t method)
    fair_by rows_right strict Plain is = fair_plain laws task xs s t walk (λ p. absurd (cc (is, p)))
    fair_by rows_right strict Reuse is = fair_reuse (rows_right (λ p. absurd (cc (is, p)))) (λ p. absurd (cc (is, p))) (task.rows t) refl
    fair_by rows_right strict Prune is =
        fair_prune laws (strict is) task workable.between labels t t_there t_below walk (final m task laws zero_least labels t standing.ranked lowest) (rows_right (λ p. absurd (cc (is, p)))) is

    pub fair_offers : ((task.method ≢ Plain) → RowsRight m task (xs ++ t ∷ [])) → (task.method ≡ Prune → Strict m) → Fair m task xs s t (offers m task s t)
    fair_offers rows_right strict = fair_by rows_right strict task.method refl
