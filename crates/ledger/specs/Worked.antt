-- Working a row.
--
--   EndsIn m task row queue          some run of the task ends with that row and that queue
--   Worked m v a method row queue    row a is worked from the view v: a run ends with that row and queue, and nobody waits; the row is
--                                    right; the number taken is from 1 to the number of stations with a cost below FAR, and this number
--                                    unless the method is reuse
use Rattle.std.specs.Prelude.{◌≡◌, ◌≢◌, ℕ, ◌≤◌, List}
use Rattle.cost.specs.Kind.{Kind}
use Rattle.queue.specs.Meaning.{Meaning, Nobody}
use Rattle.routes.specs.Row.{Row, Right}
use Rattle.routes.specs.Runs.{Run, below_far}
use Rattle.routes.specs.State.{State}
use Rattle.routes.specs.Task.{Task}
use Rattle.routes.specs.declared.method.Method.{Method}
use Rattle.routes.specs.declared.method.Method.TheVariants.{Reuse}
use Rattle.ledger.specs.Ledger.{network}
use Rattle.ledger.specs.View.{View, task_of}

module _ {K : Type 0} (m : Kind K) where
  pub record EndsIn (task : Task K) (row : Row K) (queue : Meaning) : Type 0 where
    pub stations : List ℕ
    pub state : State K
    pub run : Run m task stations state
    pub row_then : state.row ≡ row
    pub queue_then : state.queue ≡ queue

  pub record Worked (v : View K) (a : ℕ) (method : Method) (row : Row K) (queue : Meaning) : Type 0 where
    pub ends : EndsIn (task_of v a method) row queue
    pub nobody : Nobody queue
    pub right : Right m (network v.ledger) a row
    pub some_taken : 1 ≤ queue.taken
    pub at_most : queue.taken ≤ below_far m v.ledger.stations row
    pub all : method ≢ Reuse → queue.taken ≡ below_far m v.ledger.stations row
