-- How many are taken.
use Rattle.ledger.proofs.Agreed.{work_takes_most, work_takes_all}
use Rattle.ledger.proofs.agreeing.works_agree.Goals as goal

pub returns-clause-plain_takes_most : goal.returns-clause-plain_takes_most
returns-clause-plain_takes_most g c m laws ledger rows others a method x y row other queue after plain work = work_takes_most laws plain work

pub returns-clause-all_but_reuse : goal.returns-clause-all_but_reuse
returns-clause-all_but_reuse g c m laws ledger rows others a method x y row other queue after not_reuse plain work =
    work_takes_all laws plain work not_reuse
