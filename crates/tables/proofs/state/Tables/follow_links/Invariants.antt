-- The links of the part before `index` have been offered.
use Rattle.std.proofs.Common.{◌≡◌}
use Rattle.routes.specs.Methods.{guided}
use Rattle.tables.specs.View.{ledger_of}
use Rattle.tables.specs.Working.{state_of, Kept}
use Rattle.tables.specs.Following.{first_by, guide_row}
use Rattle.tables.proofs.Part.{Parting}
use Rattle.tables.proofs.state.Tables.follow_links.Given as goal

abbrev pub invariant-loop-index : goal.invariant-loop-index
invariant-loop-index g l =
    let m = g.K.Cost.kind in
    let a = l.taken.source in
    let meaning = g.Q.Queue.meaning in record {
      kept : Kept a l.initial.self l.self;
      same_stations : (meaning l.queue).stations ≡ (meaning l.initial.queue).stations;
      so_far : Parting m l.taken.label l.taken.station (first_by l.taken.trail) (guided m (guide_row m l.initial.self l.taken.guide)) (ledger_of l.initial.self).links l.initial.self.departures l.index (state_of m l.initial.self a l.initial.firsts (meaning l.initial.queue)) (state_of m l.self a l.firsts (meaning l.queue));
    }
