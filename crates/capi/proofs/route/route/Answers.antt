use Rattle.std.specs.Prelude.{◌≡◌}
use Rattle.std.proofs.Common.{ap, refl, subst}
use Rattle.ledger.specs.After.{after_work}
use Rattle.ledger.specs.Ledger.{Ledger}
use Rattle.capi.specs.Route.{RouteTold}
use Rattle.capi.proofs.Answering.{accepted_answer, refused_answer}
use Rattle.capi.proofs.Capped.{read_accepted, read_refused}
use Rattle.capi.proofs.route.route.Goals as goal

pub tell_route-requires : goal.tell_route-requires
tell_route-requires g c = record { unworked = ap (λ (l : Ledger _). l.marked c.args.from) c.in-Ok.ensures.ledger }

pub returns-in-Ok : goal.returns-in-Ok
returns-in-Ok g c =
    let read = c.in-Ok.ensures in
    let told = c.tell_route in record {
      answer = accepted_answer (told.new.list ≡ c.args.list.now) c.args.facts.now told.new.facts told.result (read_accepted g.K.FileKind.format c.args.file.now read.refused)
          (subst (λ l. RouteTold g.K.Cost.kind (after_work l c.args.from) c.args.from c.args.to c.args.list.now told.new.list c.args.facts.now told.new.facts told.result) read.ledger
          (told.ensures.told _ _ read.stands));
    }

pub returns-in-Err : goal.returns-in-Err
returns-in-Err g c = record {
  answer = refused_answer _ (read_refused g.K.FileKind.format c.args.file.now _ c.in-Err.ensures.refused) (rw c.code.ensures.value at c.refuse.ensures.refuses) refl;
}
