-- Promises over every site log.
--
--   Logged m e before after    from whatever start and log a plan stands before a call, it stands after it by the log with the
--                              entry e added
--   Reckoned m before says     and what is said holds of the ledger that is reckoned from that start and log
--   ByLog m before says        and what is said holds of that start and log
use Rattle.std.specs.Prelude.{List, [], ◌∷◌, ◌++◌}
use Rattle.cost.specs.Kind.{Kind}
use Rattle.ledger.specs.Ledger.{Ledger}
use Rattle.ledger.specs.View.{View}
use Rattle.ledger.specs.Log.{Entry, reckon}
use Rattle.ledger.specs.Stands.{Stands}

pub record Logged {K : Type 0} (m : Kind K) (e : Entry K) (before after : View K) : Type 0 where
  pub stands : (start : Ledger K) (log : List (Entry K)) → Stands m start log before → Stands m start (log ++ e ∷ []) after

pub record Reckoned {K : Type 0} (m : Kind K) (before : View K) (says : Ledger K → Type 0) : Type 0 where
  pub by_ledger : (start : Ledger K) (log : List (Entry K)) → Stands m start log before → says (reckon m start log)

pub record ByLog {K : Type 0} (m : Kind K) (before : View K) (says : Ledger K → List (Entry K) → Type 0) : Type 0 where
  pub by_log : (start : Ledger K) (log : List (Entry K)) → Stands m start log before → says start log
