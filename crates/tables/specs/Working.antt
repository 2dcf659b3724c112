-- A row as it is being worked.
--
--   begun_row m a        the row of source a as it begins
--   begun_queue m n a    the queue then: the source waits, and nobody else
--   state_of m t a firsts queue   the state of row a: its labels and predecessors, the first stations, and the queue
--   offer_of o                    an offer as it is made
--   SameBut n a xs ys             ys is xs but for row a
--   Kept a t t'                   t' is t, over the same memory, but for row a of both tables
--   RowFilled a t t'              ... and row a is marked
use Rattle.std.specs.Prelude.{◌≡◌, ℕ, ◌+◌, ◌*◌, ◌<◌, ◌≤◌, true, List, Option, None, length, slice_index_or, slice_set, ◌⊎◌}
use Rattle.cost.specs.Kind.{Kind}
use Rattle.queue.specs.Meaning.{Meaning}
use Rattle.queue.specs.Calls.{fresh, after_put}
use Rattle.routes.specs.Row.{Row}
use Rattle.routes.specs.State.{State, written}
use Rattle.routes.specs.Offers.{Offer}
use Rattle.ledger.specs.View.{stored}
use Rattle.tables.specs.declared.state.Tables.{Tables}
use Rattle.tables.specs.Lent.{SameMemory}
use Rattle.tables.specs.declared.labels.Offer.{Offer as Made}
use Rattle.tables.specs.View.{row_of}

abbrev pub begun_row : {K : Type 0} → Kind K → ℕ → Row K
begun_row m a = record { costs = written (λ v. m.far) a m.zero; predecessors = λ v. None }

abbrev pub begun_queue : {K : Type 0} → Kind K → ℕ → ℕ → Meaning
begun_queue m n a = after_put (fresh n) a (m.rank m.zero)

abbrev pub state_of : {K : Type 0} → Kind K → Tables K → ℕ → List (Option ℕ) → Meaning → State K
state_of m t a firsts queue = record {
  row = row_of m t a;
  firsts = λ v. slice_index_or firsts v None;
  queue = queue;
}

abbrev pub offer_of : {K : Type 0} → Made K → Offer K
offer_of o = record { station = o.station; cost = o.cost; predecessor = stored o.predecessor; first = o.first; puts = o.puts }

pub record SameBut {X : Type 0} (n a : ℕ) (xs ys : List X) : Type 0 where
  pub long : length ys ≡ length xs
  pub others : (i : ℕ) (d : X) → (i < a * n) ⊎ (a * n + n ≤ i) → slice_index_or ys i d ≡ slice_index_or xs i d

pub record Kept {K : Type 0} (a : ℕ) (t t' : Tables K) : Type 0 where
  pub memory : SameMemory t t'
  pub stations : t'.stations ≡ t.stations
  pub count : t'.count ≡ t.count
  pub worked : t'.worked ≡ t.worked
  pub list : t'.list.now ≡ t.list.now
  pub departures : t'.departures ≡ t.departures
  pub costs : SameBut t.stations a t.costs.now t'.costs.now
  pub predecessors : SameBut t.stations a t.predecessors.now t'.predecessors.now

pub record RowFilled {K : Type 0} (a : ℕ) (t t' : Tables K) : Type 0 where
  pub memory : SameMemory t t'
  pub stations : t'.stations ≡ t.stations
  pub count : t'.count ≡ t.count
  pub worked : t'.worked ≡ slice_set t.worked a true
  pub list : t'.list.now ≡ t.list.now
  pub costs : SameBut t.stations a t.costs.now t'.costs.now
  pub predecessors : SameBut t.stations a t.predecessors.now t'.predecessors.now
