-- Offers of a better label; accepting one is a relaxation.
--
--   Offer K               a cost for a station, with its predecessor and the first station after the source on that way; and whether
--                         the station is put where it does not wait
--   accepted m s o        the state s after an offer that is accepted; a station that waits does so at its new label's rank
--   offered m s o         ... and after one that is made: it is accepted where its cost is below the station's label
--   offered_all m s os    ... and after one offer after the other
use Rattle.std.specs.Prelude.{ℕ, Bool, ◌||◌, List, Option, is_some, if◌then◌else◌, nat_lt}
use Rattle.std.specs.List.{fold}
use Rattle.cost.specs.Kind.{Kind}
use Rattle.queue.specs.Calls.{after_put}
use Rattle.routes.specs.State.{State, written}

pub record Offer (K : Type 0) : Type 0 where
  pub station : ℕ
  pub cost : K
  pub predecessor : Option ℕ
  pub first : Option ℕ
  pub puts : Bool

abbrev pub accepted : {K : Type 0} → Kind K → State K → Offer K → State K
accepted m s o = record {
  row = record {
    costs = written s.row.costs o.station o.cost;
    predecessors = written s.row.predecessors o.station o.predecessor;
  };
  firsts = written s.firsts o.station o.first;
  queue = if o.puts || is_some (s.queue.ranks o.station) then after_put s.queue o.station (m.rank o.cost) else s.queue;
}

abbrev pub offered : {K : Type 0} → Kind K → State K → Offer K → State K
offered m s o = if nat_lt (m.rank o.cost) (m.rank (s.row.costs o.station)) then accepted m s o else s

abbrev pub offered_all : {K : Type 0} → Kind K → State K → List (Offer K) → State K
offered_all m s os = fold (offered m) s os
