-- The work is accepted, and so the row is marked when it is copied.
use Rattle.std.specs.Prelude.{◌≡◌, true, None}
use Rattle.std.proofs.Common.{◌∙◌, ap, arith, subst, sym}
use Rattle.refusal.specs.First.{told}
use Rattle.ledger.specs.After.{after_work}
use Rattle.ledger.specs.Ledger.{Ledger}
use Rattle.ledger.specs.Worked.{Worked}
use Rattle.plan.specs.View.{view}
use Rattle.tables.specs.Copied.{Copied}
use Rattle.capi.proofs.Accepted.{copy_accepted, on_accepted, work_accepted, work_marks}
use Rattle.capi.proofs.row.fill_row.Goals as goal

pub returns : goal.returns
returns g c = record {
  filled = λ start log stands.
      let m = g.K.Cost.kind in
      let a = c.args.source in
      let before = view m c.args.plan.now in
      let after = view m c.work.new.self in
      let queue = g.Q.Queue.meaning c.work.new.queue in
      let effect = c.work.ensures.effect in
      let accepted : told c.work.result ≡ None = effect.refusal ∙ work_accepted before.ledger a c.requires.source c.requires.unworked in
      let ledger : after.ledger ≡ after_work before.ledger a = on_accepted c.work.result accepted effect.ledger in
      let stations : after.ledger.stations ≡ before.ledger.stations = ap (λ (l : Ledger _). l.stations) ledger in
      let marked : after.ledger.marked a ≡ true = ap (λ (l : Ledger _). l.marked a) ledger ∙ work_marks before.ledger a in
      let worked = on_accepted c.work.result accepted (c.work.ensures.answer.by_ledger start log stands).worked in
      let copy = c.copy_row.ensures.effect in
      let none = copy_accepted after.ledger a c.args.costs.now c.args.predecessors.now (omega (arith, c.requires.source, stations)) marked
      (omega (arith, c.requires.costs_fit, stations)) (omega (arith, c.requires.predecessors_fit, stations)) in
      let copied = on_accepted c.copy_row.result (copy.refusal ∙ none) copy.copied in record {
        bounds = record { few = stands.holds.not_too_many; between = stands.holds.fair.between };
        row = after.rows a;
        queue = queue;
        worked = subst (λ l. Worked m (record { ledger = l; rows = before.rows }) a c.args.method (after.rows a) queue) (sym stands.reckoned) worked;
        count = c.taken.ensures.value;
        copied = subst (λ n. Copied m n (after.rows a) c.args.costs.now c.copy_row.new.costs c.args.predecessors.now c.copy_row.new.predecessors) stations copied;
      };
}
