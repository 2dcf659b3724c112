-- Working all rows.
--
--   works n method                the entries of a site log by which each of n rows is worked in row order
--   RowWorked m method a p q p' q'
--                                 row a was to be worked on the plan p with the queue q, and they are p' and q' now: as after the work,
--                                 where it was accepted, and else as before
--   AllWorked m method p q n p' q'
--                                 each of n rows was to be worked, in row order, one after the other
use Rattle.std.specs.Prelude.{◌≡◌, ℕ, ◌+◌, List, map, Result, OnOk, OnErr}
use Rattle.std.specs.List.{range_with_len}
use Rattle.cost.specs.Kind.{Kind}
use Rattle.queue.specs.Meaning.{Meaning}
use Rattle.refusal.specs.declared.Refusal.{Refusal}
use Rattle.routes.specs.declared.method.Method.{Method}
use Rattle.ledger.specs.Effects.{WorkEffect}
use Rattle.ledger.specs.Log.{Entry, work}
use Rattle.tables.specs.Working.{RowFilled}
use Rattle.plan.specs.View.{view}
use Rattle.tables.specs.declared.state.Tables.{Tables as Plan}

abbrev pub works : {K : Type 0} → ℕ → Method → List (Entry K)
works n method = map (λ a. work a method) (range_with_len 0 n)

module _ {K : Type 0} (m : Kind K) (method : Method) where
  pub record RowWorked (a : ℕ) (p : Plan K) (q : Meaning) (p' : Plan K) (q' : Meaning) : Type 0 where
    pub answer : Result Unit Refusal
    pub effect : WorkEffect m (view m p) (view m p') a method answer q'
    pub left : OnOk answer (RowFilled a p p')
    pub same : OnErr answer (p' ≡ p)
    pub queue : OnErr answer (q' ≡ q)

  pub data AllWorked (p : Plan K) (q : Meaning) : ℕ → Plan K → Meaning → Type 0 where
    none : AllWorked p q 0 p q
    one_more : {a : ℕ} {p' p'' : Plan K} {q' q'' : Meaning} → AllWorked p q a p' q' → RowWorked a p' q' p'' q'' → AllWorked p q (a + 1) p'' q''
