-- The state of a row that is being worked.
--
--   State K          the labels, which are the costs found so far, and their predecessors; the first station after the source on the
--                    way to each label, where the method keeps it; the queue
--   written f v x    f, but x for v
--   begun m task     the source at zero, waiting; every other station at FAR; no predecessor
use Rattle.std.specs.Prelude.{ℕ, Option, None, ◌==◌, if◌then◌else◌}
use Rattle.cost.specs.Kind.{Kind}
use Rattle.queue.specs.Calls.{fresh, after_put}
use Rattle.queue.specs.Meaning.{Meaning}
use Rattle.routes.specs.Row.{Row}
use Rattle.routes.specs.Task.{Task}

pub record State (K : Type 0) : Type 0 where
  pub row : Row K
  pub firsts : ℕ → Option ℕ
  pub queue : Meaning

abbrev pub written : {X : Type 0} → (ℕ → X) → ℕ → X → ℕ → X
written f v x u = if u == v then x else f u

abbrev pub begun : {K : Type 0} → Kind K → Task K → State K
begun m task = record {
  row = record { costs = written (λ v. m.far) task.source m.zero; predecessors = λ v. None };
  firsts = λ v. None;
  queue = after_put (fresh task.network.stations) task.source (m.rank m.zero);
}
