-- What copying a row has to answer, by the ledger that was reckoned from the log.
--
--   CopyAnswer m g row a xs ys r    the first refusal that fits, else the row is right; the lists were xs and ys
use Rattle.std.specs.Prelude.{◌≡◌, ℕ, List, Result, OnOk}
use Rattle.cost.specs.Kind.{Kind}
use Rattle.refusal.specs.First.{told}
use Rattle.refusal.specs.declared.Refusal.{Refusal}
use Rattle.routes.specs.Row.{Row, Right}
use Rattle.ledger.specs.Ledger.{Ledger, network}
use Rattle.tables.specs.Copied.{copy_refusal}

pub record CopyAnswer {K T : Type 0} (m : Kind K) (g : Ledger K) (row : Row K) (a : ℕ) (xs ys : List ℕ) (r : Result T Refusal) : Type 0 where
  pub refusal : told r ≡ copy_refusal g a xs ys
  pub right : OnOk r (Right m (network g) a row)
