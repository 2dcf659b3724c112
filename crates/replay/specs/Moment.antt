-- What entries are run on, between two of them.
--
--   Moment K       a plan, and what the queue for its works means
--   moment p q     the plan p and the queue q
use Rattle.queue.specs.Meaning.{Meaning}
use Rattle.tables.specs.declared.state.Tables.{Tables as Plan}

pub record Moment (K : Type 0) : Type 0 where
  pub plan : Plan K
  pub queue : Meaning

abbrev pub moment : {K : Type 0} → Plan K → Meaning → Moment K
moment p q = record { plan = p; queue = q }
