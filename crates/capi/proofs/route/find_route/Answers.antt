-- Each call on the plan answers for the route: where one is refused, the route is.
use Rattle.std.specs.Prelude.{Err, Ok}
use Rattle.std.proofs.Common.{◌∙◌, ap, refl, rules, subst, sym}
use Rattle.refusal.specs.Code.{code_of}
use Rattle.ledger.specs.After.{after_work}
use Rattle.ledger.specs.Refusals.{cost_refusal}
use Rattle.ledger.specs.RouteAnswer.{RouteAnswer}
use Rattle.plan.specs.View.{view}
use Rattle.capi.proofs.Found.{refused_early, refused_work}
use Rattle.capi.proofs.route.find_route.Goals as goal

pub returns-in_err-work : goal.returns-in_err-work
returns-in_err-work g c = record {
  found = λ start log stands.
      let m = g.K.Cost.kind in
      let v = view m c.args.plan.now in
      let a = c.args.from in
      let why = c.in_err-work.field-0.0 in record {
        row = v.rows a;
        answer = Err why;
        routed = refused_early m (after_work v.ledger a) (v.rows a) a c.args.to c.args.list.now why (refused_work v.ledger a c.args.to (code_of why) c.requires.unworked c.in_err-work.ensures.effect.refusal);
        same = search rules;
      };
}

pub returns-in_err-cost : goal.returns-in_err-cost
returns-in_err-cost g c = record {
  found = λ start log stands.
      let m = g.K.Cost.kind in
      let v = view m c.args.plan.now in
      let after = view m c.work.new.self in
      let a = c.args.from in
      let why = c.in_err-cost.field-0.0 in record {
        row = after.rows a;
        answer = Err why;
        routed = refused_early m (after_work v.ledger a) (after.rows a) a c.args.to c.args.list.now why
            (c.in_err-cost.ensures.effect.refusal ∙ ap (λ l. cost_refusal l a c.args.to) c.in_ok-work.ensures.effect.ledger);
        same = search rules;
      };
}

pub returns-in_err-count : goal.returns-in_err-count
returns-in_err-count g c = record {
  found = λ start log stands.
      let m = g.K.Cost.kind in
      let after = view m c.work.new.self in
      let a = c.args.from in
      let why = c.in_err-count.field-0.0 in
      let stood = c.in_ok-work.ensures.logged.stands start log stands in record {
        row = after.rows a;
        answer = Err why;
        routed = subst (λ l. RouteAnswer m l (after.rows a) a c.args.to c.args.list.now c.route.new.list (Err why)) (sym stood.reckoned ∙ c.in_ok-work.ensures.effect.ledger)
            (c.in_err-count.ensures.answer.by_ledger start _ stood);
        same = search rules;
      };
}

pub returns : goal.returns
returns g c = record {
  found = λ start log stands.
      let m = g.K.Cost.kind in
      let after = view m c.work.new.self in
      let a = c.args.from in
      let count = c.in_ok-count.count in
      let stood = c.in_ok-work.ensures.logged.stands start log stands in record {
        row = after.rows a;
        answer = Ok count;
        routed = subst (λ l. RouteAnswer m l (after.rows a) a c.args.to c.args.list.now c.route.new.list (Ok count)) (sym stood.reckoned ∙ c.in_ok-work.ensures.effect.ledger)
            (c.in_ok-count.ensures.answer.by_ledger start _ stood);
        same = (refl, c.rank-cost.ensures.value ∙ ap m.rank c.in_ok-cost.ensures.effect.value);
      };
}
