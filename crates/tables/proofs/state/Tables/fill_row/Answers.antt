-- What the row is worked from is as it was before the row began.
use Rattle.std.proofs.Common.{ap, subst, rules, true, slice_set}
use Rattle.ledger.specs.Worked.{EndsIn}
use Rattle.tables.specs.View.{row_of}
use Rattle.tables.specs.Working.{Kept}
use Rattle.tables.proofs.Filled.{filled_ledger, filled_others}
use Rattle.tables.proofs.Keeping.{kept_task, kept_twice}
use Rattle.tables.proofs.state.Tables.fill_row.Goals as goal

pub returns-clause-after : goal.returns-clause-after
returns-clause-after g c =
    let ran = c.run.ensures.kept in
    let since : Kept c.args.source c.begin_row.new.self c.run.new.self = record {
      memory = record { list = ran.memory.list; costs = ran.memory.costs; predecessors = ran.memory.predecessors };
      stations = ran.stations;
      count = ran.count;
      worked = ran.worked;
      list = ran.list;
      departures = ran.departures;
      costs = ran.costs;
      predecessors = ran.predecessors;
    } in
    let kept = kept_twice c.begin_row.ensures.kept since in record {
      memory = record { list = kept.memory.list; costs = kept.memory.costs; predecessors = kept.memory.predecessors };
      stations = kept.stations;
      count = kept.count;
      worked = ap (λ w. slice_set w c.args.source true) kept.worked;
      list = kept.list;
      costs = kept.costs;
      predecessors = kept.predecessors;
    }

pub returns-clause-effect : goal.returns-clause-effect
returns-clause-effect g c =
    let m = g.K.Cost.kind in
    let filled = returns-clause-after g c in record {
      refusal = search rules;
      ledger = filled_ledger filled (search rules);
      ends = subst (λ task. EndsIn m task (row_of m c.run.new.self c.args.source) (g.Q.Queue.meaning c.run.new.queue)) (kept_task m c.begin_row.ensures.kept (search rules) c.args.method) c.run.ensures.ends;
      others = λ b there apart. filled_others filled m b apart;
      kept = search rules;
    }
