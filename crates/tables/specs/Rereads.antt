-- The file that a plan was written as, read again.
--
--   ReadAgain m formed f g bs      the file bs is accepted by any list, of 1 to 4,096 places, that has places for the links of the ledger
--                                  g, beside tables with a cell for each two of its stations; it is read as the same number of stations
--                                  and the same links in the same order
--   Rereads m formed f v r buffer  from whatever start and log a plan stands, where it is written, the first bytes of the
--                                  buffer, as many as are answered, are such a file
use Rattle.std.specs.Prelude.{◌≡◌, ℕ, ◌*◌, ◌≤◌, List, length, take, None, Option, Result, IfOk}
use Rattle.cost.specs.Kind.{Kind}
use Rattle.refusal.specs.declared.Refusal.{Refusal}
use Rattle.filekind.specs.Format.{Format}
use Rattle.planfile.specs.Reading.{links_of, stations_of}
use Rattle.planfile.specs.RoundTrip.{SameLinks}
use Rattle.ledger.specs.Ledger.{Ledger}
use Rattle.ledger.specs.Log.{Entry}
use Rattle.ledger.specs.Stands.{Stands}
use Rattle.ledger.specs.View.{View}
use Rattle.tables.specs.Read.{file_refusal}

module _ {K : Type 0} (m : Kind K) (formed : ℕ → Option K) (f : Format) where
  pub record ReadAgain (g : Ledger K) (bs : List ℕ) : Type 0 where
    pub accepted : (places costs predecessors : ℕ) → 1 ≤ places → places ≤ 4096 → length g.links ≤ places
        → g.stations * g.stations ≤ costs → g.stations * g.stations ≤ predecessors → file_refusal f places costs predecessors bs ≡ None
    pub stations : stations_of bs ≡ g.stations
    pub same : SameLinks m (links_of m formed bs) g.links

  pub record Rereads (v : View K) (r : Result ℕ Refusal) (buffer : List ℕ) : Type 0 where
    pub by_log : (start : Ledger K) (log : List (Entry K)) → Stands m start log v → IfOk r (λ l. ReadAgain v.ledger (take l buffer))
