-- Runs of a method. Which station of the lowest rank is taken is the only freedom.
--
--   taking s t               the state s after t was taken from the queue
--   followed m task s t      ... and after what t offers
--   Reached m task xs s      the stations xs may be taken one after the other, and s is the state then
--   Run m task xs s          a whole run: nobody waits any more
--   below_far m n row        how many stations of n have a cost below FAR
use Rattle.std.specs.Prelude.{ℕ, List, [], ◌∷◌, ◌++◌, nat_lt, count_by}
use Rattle.std.specs.List.{range_with_len}
use Rattle.cost.specs.Kind.{Kind, FAR}
use Rattle.queue.specs.Calls.{after_take}
use Rattle.queue.specs.Meaning.{Lowest, Nobody}
use Rattle.routes.specs.Row.{Row}
use Rattle.routes.specs.Task.{Task}
use Rattle.routes.specs.State.{State, begun}
use Rattle.routes.specs.Offers.{offered_all}
use Rattle.routes.specs.Methods.{offers}

abbrev pub taking : {K : Type 0} → State K → ℕ → State K
taking s t = record { row = s.row; firsts = s.firsts; queue = after_take s.queue t }

abbrev pub followed : {K : Type 0} → Kind K → Task K → State K → ℕ → State K
followed m task s t = offered_all m (taking s t) (offers m task s t)

pub data Reached {K : Type 0} (m : Kind K) (task : Task K) : List ℕ → State K → Type 0 where
  start : Reached m task [] (begun m task)
  next : {xs : List ℕ} {s : State K} {t : ℕ} → Reached m task xs s → Lowest s.queue t → Reached m task (xs ++ t ∷ []) (followed m task s t)

pub record Run {K : Type 0} (m : Kind K) (task : Task K) (xs : List ℕ) (s : State K) : Type 0 where
  pub reached : Reached m task xs s
  pub over : Nobody s.queue

abbrev pub below_far : {K : Type 0} → Kind K → ℕ → Row K → ℕ
below_far m n row = count_by (λ v. nat_lt (m.rank (row.costs v)) FAR) (range_with_len 0 n)
