use Rattle.listing.proofs.WorkedAgain.{list_stays, nothing_changes}
use Rattle.listing.proofs.again.all_worked_again.Goals as goal

pub returns-clause-list : goal.returns-clause-list
returns-clause-list g c m method n p p' q q' all = list_stays p q all

pub returns-clause-plan : goal.returns-clause-plan
returns-clause-plan g c m method n p p' q q' all marked = (nothing_changes p q all marked).0

pub returns-clause-queue : goal.returns-clause-queue
returns-clause-queue g c m method n p p' q q' all marked = (nothing_changes p q all marked).1
