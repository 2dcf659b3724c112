-- Entries that were run on a plan, one after the other.
--
--   log_to log es i       the log with the first i of the entries es added
--   AnsweredAt .. i       entry i has the right answer by the ledger reckoned up to it, where one is due by the log up to it, and leaves
--                         what it has to; before it the plan stands by the log up to it, and then by the log with it
--   Replayed .. n         so it is with each of the first n entries, and each is run at the moment that the one before it left
--   Replays .. n          this holds from whatever start and log the plan stands at first
use Rattle.std.specs.Prelude.{◌≡◌, ℕ, ◌+◌, ◌<◌, List, ◌++◌, map, take, Some}
use Rattle.std.specs.List.{slice_get}
use Rattle.cost.specs.Kind.{Kind}
use Rattle.ledger.specs.Ledger.{Ledger}
use Rattle.ledger.specs.Log.{Entry, reckon}
use Rattle.ledger.specs.Stands.{Stands}
use Rattle.plan.specs.View.{view}
use Rattle.replay.specs.Entries.{meant}
use Rattle.replay.specs.Pool.{part}
use Rattle.replay.specs.Moment.{Moment}
use Rattle.replay.specs.Says.{Says}
use Rattle.replay.specs.Due.{Due}
use Rattle.replay.specs.Leaves.{Leaves}
use Rattle.replay.specs.declared.entry.Entry.{Entry as Given}
use Rattle.replay.specs.declared.entry.Answer.{Answer}

module _ {K : Type 0} where
  abbrev pub log_to : List (Entry K) → List (Given K) → ℕ → List (Entry K)
  log_to log es i = log ++ map meant (take i es)

  module _ (m : Kind K) (start : Ledger K) (log : List (Entry K)) (es : List (Given K)) (answers : List (Answer K)) (old new : List ℕ) where
    pub record AnsweredAt (i : ℕ) (before after : Moment K) : Type 0 where
      pub entry : Given K
      pub answer : Answer K
      pub entry_there : slice_get es i ≡ Some entry
      pub answer_there : slice_get answers i ≡ Some answer
      pub stands : Stands m start (log_to log es i) (view m before.plan)
      pub stands_then : Stands m start (log_to log es (i + 1)) (view m after.plan)
      pub says : Says m (reckon m start (log_to log es i)) before after entry answer (part es i entry old) (part es i entry new)
      pub due : Due m start (log_to log es i) entry answer (part es i entry old)
      pub leaves : Leaves m before after entry answer

    pub record Replayed (before after : Moment K) (n : ℕ) : Type 0 where
      pub moments : ℕ → Moment K
      pub first : moments 0 ≡ before
      pub last : moments n ≡ after
      pub each : (i : ℕ) → i < n → AnsweredAt i (moments i) (moments (i + 1))
      pub stands : Stands m start (log_to log es n) (view m after.plan)

  abbrev pub Replays : Kind K → List (Given K) → List (Answer K) → List ℕ → List ℕ → Moment K → Moment K → ℕ → Type 0
  Replays m es answers old new before after n =
      (start : Ledger K) (log : List (Entry K)) → Stands m start log (view m before.plan) → Replayed m start log es answers old new before after n
