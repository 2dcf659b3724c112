-- The run sets off from the source, goes on with each station taken, and arrives where none is.
use Rattle.std.proofs.Common.{◌∙◌, refl, arith, ap, rules}
use Rattle.routes.specs.Task.{Workable}
use Rattle.routes.proofs.Costs.{zero_least_from_strict}
use Rattle.ledger.specs.View.{task_of}
use Rattle.tables.specs.View.{view_of}
use Rattle.tables.proofs.Keeping.{kept_itself, kept_task, kept_twice, links_between}
use Rattle.tables.proofs.Running.{arrives, goes_on, lowest_is_station, no_firsts_yet, set_off, taken_more}
use Rattle.tables.proofs.state.Tables.run.Goals as goal

pub loop-station-init : goal.loop-station-init
loop-station-init g c =
    let m = g.K.Cost.kind in
    let t = c.args.self.now in record {
      firsts_there = search rules;
      same_stations = ap (λ q. q.stations) c.requires.queue;
      kept = kept_itself c.args.source t;
      underway = set_off m (task_of (view_of m t) c.args.source c.args.method) (rw (c.requires.row, c.requires.queue, no_firsts_yet 256 c.no_firsts-firsts.ensures.none) refl);
    }

pub follow-requires-clause-station : goal.follow-requires-clause-station
follow-requires-clause-station g c =
    let there = lowest_is_station (g.met.Q.Queue.sound c.loop-station.queue) c.in-Some.ensures.takes.lowest in
    omega (arith, there, c.loop-station.invariant.same_stations, c.loop-station.invariant.kept.stations)

pub loop-station-smaller : goal.loop-station-smaller
loop-station-smaller g c =
    let m = g.K.Cost.kind in
    let t = c.args.self.now in
    let so_far = c.loop-station.invariant in
    let laws = g.met.K.Cost.lawful in
    let task = task_of (view_of m t) c.args.source c.args.method in
    let workable : Workable task = record { source_there = c.requires.source; between = links_between t } in
    let same = kept_task m so_far.kept c.requires.unworked c.args.method in
    let more = taken_more m task same so_far.underway c.in-Some.ensures.takes c.follow.ensures.state laws (zero_least_from_strict laws g.met.K.Cost.strict) workable t.few in
    omega (arith, more.0, more.1)

pub loop-station-preserved : goal.loop-station-preserved
loop-station-preserved g c =
    let m = g.K.Cost.kind in
    let so_far = c.loop-station.invariant in
    let taken = c.in-Some.ensures.takes in
    let step = c.follow.ensures in record {
      firsts_there = search rules;
      same_stations = step.queue ∙ ap (λ q. q.stations) taken.after ∙ so_far.same_stations;
      kept = kept_twice so_far.kept step.kept;
      underway = goes_on m (task_of (view_of m c.args.self.now) c.args.source c.args.method) (kept_task m so_far.kept c.requires.unworked c.args.method) so_far.underway taken step.state;
    }

pub returns-clause-ends : goal.returns-clause-ends
returns-clause-ends g c = arrives g.K.Cost.kind _ c.loop-station.invariant.underway c.in_default.ensures.takes
