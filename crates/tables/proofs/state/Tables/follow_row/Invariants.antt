-- The stations before `station` have been offered what the row offers them.
use Rattle.std.proofs.Common.{◌≡◌}
use Rattle.tables.specs.View.{row_of}
use Rattle.tables.specs.Working.{state_of, Kept}
use Rattle.tables.proofs.Along.{Alongside}
use Rattle.tables.proofs.state.Tables.follow_row.Given as goal

abbrev pub invariant-loop-station : goal.invariant-loop-station
invariant-loop-station g l =
    let m = g.K.Cost.kind in
    let a = l.taken.source in
    let meaning = g.Q.Queue.meaning in record {
      kept : Kept a l.initial.self l.self;
      same_stations : (meaning l.queue).stations ≡ (meaning l.initial.queue).stations;
      so_far : Alongside m l.taken.label (row_of m l.initial.self l.taken.station) l.initial.self.stations l.station (state_of m l.initial.self a l.initial.firsts (meaning l.initial.queue)) (state_of m l.self a l.firsts (meaning l.queue));
    }
