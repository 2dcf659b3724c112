use Rattle.std.specs.Prelude.{◌≡◌, Some}
use Rattle.std.proofs.Common.{◌∙◌, ap, rules, subst}
use Rattle.refusal.specs.Code.{code_of}
use Rattle.ledger.specs.Ledger.{Ledger}
use Rattle.plan.specs.View.{view}
use Rattle.capi.specs.Faults.{fault_of}
use Rattle.capi.specs.Row.{RowFilled}
use Rattle.capi.proofs.Capped.{read_first}
use Rattle.capi.proofs.row.read_row.Goals as goal

pub returns-in_err-read_plan-clause-refused : goal.returns-in_err-read_plan-clause-refused
returns-in_err-read_plan-clause-refused g c =
    let code = code_of c.in_err-read_plan.field-0.0 in
    let passed : fault_of c.from_residual.result ≡ Some code = search rules in
    passed ∙ read_first g.K.FileKind.format c.args.file.now code _ c.in_err-read_plan.ensures.refused

pub fill_in_store-taken-requires-clause-unworked : goal.fill_in_store-taken-requires-clause-unworked
fill_in_store-taken-requires-clause-unworked g c = ap (λ (l : Ledger _). l.marked c.args.source) c.in_ok-read_plan.ensures.ledger

pub returns-clause-worked : goal.returns-clause-worked
returns-clause-worked g c =
    let m = g.K.Cost.kind in
    let read = c.in_ok-read_plan.ensures in
    let rows = (view m c.read_plan.new.plan).rows in
    let done = c.fill_in_store-taken in record {
      method = c.in_ok-choice.choice.method;
      named = c.in_ok-choice.ensures.method;
      others = rows;
      filled = subst (λ l. RowFilled m (record { ledger = l; rows = rows }) c.args.source c.in_ok-choice.choice.method c.args.costs.now done.new.costs c.args.predecessors.now done.new.predecessors done.result)
          read.ledger (done.ensures.filled _ _ read.stands);
    }
