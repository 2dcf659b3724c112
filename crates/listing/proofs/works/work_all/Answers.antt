use Rattle.std.proofs.Common.{rules, arith}
use Rattle.plan.specs.View.{view}
use Rattle.listing.specs.AllRows.{none, one_more}
use Rattle.listing.proofs.WorkedRows.{none_marked, one_marked, worked_on}
use Rattle.listing.proofs.Memory.{all_memory}
use Rattle.listing.proofs.works.work_all.Goals as goal

pub loop-source-init : goal.loop-source-init
loop-source-init g c =
    let m = g.K.Cost.kind in
    record { rows = none; marked = none_marked m c.args.method (view m c.args.plan.now); logged = search rules }

pub loop-source-preserved : goal.loop-source-preserved
loop-source-preserved g c =
    let m = g.K.Cost.kind in
    let so_far = c.loop-source.invariant in record {
      rows = one_more so_far.rows
          (record {
            answer = c.work.result;
            effect = c.work.ensures.effect;
            left = c.work.ensures.left;
            same = c.work.ensures.same;
            queue = c.work.ensures.queue;
          });
      marked = one_marked m c.args.method c.work.result (omega arith) c.work.ensures.effect so_far.marked;
      logged = λ start log stands.
          worked_on m c.args.method start log c.loop-source.source (c.work.ensures.logged.stands start _ (so_far.logged start log stands));
    }

pub returns-clause-memory : goal.returns-clause-memory
returns-clause-memory g c = all_memory c.loop-source.invariant.rows
