-- Working the rows of a list of sources, and all rows in an order that is free.
--
--   works_of sources method  the entries of a site log by which the rows of these sources are worked in turn
--   InTurn m method p q sources p' q'
--                            the rows of these sources were to be worked, one after the other, on the plan p with the queue q, and they
--                            are p' and q' now
--   AnyOrder m p q p' q'     some rows were worked first, in turn by reuse, and then all rows in row order, by reuse too; so the log
--                            goes on with these works
use Rattle.std.specs.Prelude.{ℕ, List, [], ◌∷◌, ◌++◌, map}
use Rattle.cost.specs.Kind.{Kind}
use Rattle.queue.specs.Meaning.{Meaning}
use Rattle.routes.specs.declared.method.Method.{Method}
use Rattle.routes.specs.declared.method.Method.TheVariants.{Reuse}
use Rattle.ledger.specs.Ledger.{Ledger}
use Rattle.ledger.specs.Log.{Entry, work}
use Rattle.ledger.specs.Stands.{Stands}
use Rattle.plan.specs.View.{view}
use Rattle.tables.specs.declared.state.Tables.{Tables as Plan}
use Rattle.listing.specs.AllRows.{works, AllWorked, RowWorked}

abbrev pub works_of : {K : Type 0} → List ℕ → Method → List (Entry K)
works_of sources method = map (λ a. work a method) sources

module _ {K : Type 0} (m : Kind K) where
  pub data InTurn (method : Method) (p : Plan K) (q : Meaning) : List ℕ → Plan K → Meaning → Type 0 where
    none : InTurn method p q [] p q
    one_more : {a : ℕ} {before : List ℕ} {p' p'' : Plan K} {q' q'' : Meaning} → InTurn method p q before p' q' → RowWorked m method a p' q' p'' q'' → InTurn method p q (before ++ a ∷ []) p'' q''

  pub record AnyOrder (p : Plan K) (q : Meaning) (p' : Plan K) (q' : Meaning) : Type 0 where
    pub sources : List ℕ
    pub between : Plan K
    pub queue_between : Meaning
    pub first : InTurn Reuse p q sources between queue_between
    pub then : AllWorked m Reuse between queue_between (view m p).ledger.stations p' q'
    pub logged : (start : Ledger K) (log : List (Entry K)) → Stands m start log (view m p)
        → Stands m start ((log ++ works_of sources Reuse) ++ works (view m p).ledger.stations Reuse) (view m p')
