-- The links that are told are those that were read.
use Rattle.planfile.proofs.FrontLinks.{links_in_front}
use Rattle.account.proofs.text.account_in.Goals as goal

pub returns-in-Ok : goal.returns-in-Ok
returns-in-Ok g c =
    let told = c.in-Ok.ensures in
    let front = links_in_front g.K.Cost.kind g.K.Cost.formed c.args.bytes.now c.args.list.now in
    rw (← told.refused) (rw (told.value, told.after, front) at c.plan_lines.ensures)
