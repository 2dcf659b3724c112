-- The methods and queues that a caller in C names by numbers.
--
--   method_named k       the method of the number k, if there is one
--   store_named k        the queue of the number k, if there is one
--   choice_refusal k l   the refusal of a method's and of a queue's number, where either names none
use Rattle.std.specs.Prelude.{ℕ, ◌==◌, cond, Some, None, Option, nat_le}
use Rattle.refusal.specs.Code.{bare}
use Rattle.refusal.specs.First.{refused_if}
use Rattle.refusal.specs.declared.Code.{Code}
use Rattle.routes.specs.declared.method.Method.{Method}
use Rattle.routes.specs.declared.method.Method.TheVariants.{Plain, Reuse, Prune}
use Rattle.capi.specs.declared.choices.Store.{Store}
use Rattle.capi.specs.declared.choices.Store.TheVariants.{Heap, Shelf}

abbrev pub method_named : ℕ → Option Method
method_named k = cond (k == 0) (Some Plain) (cond (k == 1) (Some Reuse) (cond (k == 2) (Some Prune) None))

abbrev pub store_named : ℕ → Option Store
store_named k = cond (k == 0) (Some Heap) (cond (k == 1) (Some Shelf) None)

abbrev pub choice_refusal : ℕ → ℕ → Option Code
choice_refusal k l = refused_if (nat_le 3 k) (bare 101) (refused_if (nat_le 2 l) (bare 102) None)
