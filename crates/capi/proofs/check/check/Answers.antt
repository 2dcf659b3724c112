use Rattle.std.proofs.Common.{subst}
use Rattle.capi.specs.Check.{costs_of, CheckTold}
use Rattle.capi.proofs.Answering.{accepted_answer, refused_answer}
use Rattle.capi.proofs.Capped.{read_accepted, read_refused}
use Rattle.capi.proofs.check.check.Goals as goal

pub returns-in-Ok : goal.returns-in-Ok
returns-in-Ok g c =
    let m = g.K.Cost.kind in
    let read = c.in-Ok.ensures in record {
      answer = accepted_answer Unit c.args.facts.now c.tell_check.new.facts c.tell_check.result (read_accepted g.K.FileKind.format c.args.file.now read.refused)
          (subst (λ l. CheckTold m l c.args.source (costs_of m g.K.Cost.formed c.args.costs.now) c.args.predecessors.now c.args.facts.now c.tell_check.new.facts c.tell_check.result) read.ledger
          (c.tell_check.ensures.told _ _ read.stands));
    }

pub returns-in-Err : goal.returns-in-Err
returns-in-Err g c = record {
  answer = refused_answer _ (read_refused g.K.FileKind.format c.args.file.now _ c.in-Err.ensures.refused) (rw c.code.ensures.value at c.refuse.ensures.refuses) tt;
}
