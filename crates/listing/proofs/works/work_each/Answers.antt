use Rattle.std.proofs.Common.{◌∙◌, ◌++◌, take, refl, subst, sym, slice_index_or, arith}
use Rattle.ledger.specs.Stands.{Stands}
use Rattle.plan.specs.View.{view}
use Rattle.listing.specs.InTurn.{works_of, InTurn, none, one_more}
use Rattle.listing.proofs.Turns.{network_stays, no_work, one_more_taken, work_more}
use Rattle.listing.proofs.Memory.{turn_memory}
use Rattle.listing.proofs.works.work_each.Goals as goal

pub loop-source-init : goal.loop-source-init
loop-source-init g c = record { rows = none; same = refl; logged = no_work g.K.Cost.kind c.args.method (view g.K.Cost.kind c.args.plan.now) }

pub loop-source-preserved : goal.loop-source-preserved
loop-source-preserved g c =
    let m = g.K.Cost.kind in
    let meaning = g.Q.Queue.meaning in
    let so_far = c.loop-source.invariant in
    let i = c.loop-source.source-index in
    let a = slice_index_or c.args.sources.now i 0 in
    let more = sym (one_more_taken c.args.sources.now i (omega (arith, c.loop-source-test.true))) in
    let worked = c.work.ensures in record {
      rows = subst (λ done. InTurn m c.args.method c.args.plan.now (meaning c.args.queue.now) done c.work.new.self (meaning c.work.new.queue)) more
          (one_more so_far.rows (record { answer = c.work.result; effect = worked.effect; left = worked.left; same = worked.same; queue = worked.queue }));
      same = network_stays c.work.result worked.effect ∙ so_far.same;
      logged = λ start log stands.
          subst (λ done. Stands m start (log ++ works_of done c.args.method) (view m c.work.new.self)) more
          (work_more m c.args.method start log (take i c.args.sources.now) a (worked.logged.stands start _ (so_far.logged start log stands)));
    }

pub returns-clause-memory : goal.returns-clause-memory
returns-clause-memory g c = turn_memory c.loop-source.invariant.rows
