-- What testing a supplier's row has to answer, by the ledger that was reckoned from the log.
--
--   Named          the station named is one, and fails by the cause named
--   Faulty         a refusal names a station that fails, and a cause by which it does
--   CheckAnswer    the first refusal that fits, else the row is accepted exactly if it is right, and if not, refused as faulty
use Rattle.std.specs.Prelude.{◌≡◌, ◌↔◌, ℕ, ◌<◌, true, List, Some, None, Result, IsOk, IfErr}
use Rattle.cost.specs.Kind.{Kind}
use Rattle.refusal.specs.Code.{code_of}
use Rattle.refusal.specs.First.{told}
use Rattle.refusal.specs.declared.Code.{Code}
use Rattle.refusal.specs.declared.Facts.TheVariants.{AtStation}
use Rattle.refusal.specs.declared.Failing.{Failing}
use Rattle.refusal.specs.declared.Refusal.{Refusal}
use Rattle.routes.specs.Fails.{fails}
use Rattle.routes.specs.Network.{Network}
use Rattle.routes.specs.Row.{Row, Right}
use Rattle.ledger.specs.Ledger.{Ledger, network}
use Rattle.ledger.specs.Refusals.{check_refusal}
use Rattle.ledger.specs.View.{given}

pub record Named {K : Type 0} (m : Kind K) (net : Network K) (A : ℕ) (row : Row K) (f : Failing) : Type 0 where
  pub station : f.station < net.stations
  pub fails : fails m net A row f.station f.cause ≡ true

module _ {K : Type 0} (m : Kind K) (g : Ledger K) (a : ℕ) (costs : List K) (predecessors : List ℕ) where
  pub record Faulty (refusal : Refusal) : Type 0 where
    pub failing : Failing
    pub code : code_of refusal ≡ record { number = 14; facts = AtStation failing }
    pub named : Named m (network g) a (given m costs predecessors) failing

  pub record CheckAnswer {T : Type 0} (r : Result T Refusal) : Type 0 where
    pub refused : (code : Code) → check_refusal g a costs predecessors ≡ Some code → told r ≡ Some code
    pub accepted : IsOk r ↔ ((check_refusal g a costs predecessors ≡ None) × Right m (network g) a (given m costs predecessors))
    pub faulty : check_refusal g a costs predecessors ≡ None → IfErr r Faulty
