use Rattle.capi.proofs.by_method.read_table_by.Goals as goal

pub returns-clause-tabled : goal.returns-clause-tabled
returns-clause-tabled g c =
    let read = c.in_ok-read_plan.ensures in record {
      method = c.in_ok-choice.choice.method;
      named = c.in_ok-choice.ensures.method;
      plan = c.read_plan.new.plan;
      begins = read.ledger;
      filled = c.fill_in_store.ensures.filled _ _ read.stands;
    }
