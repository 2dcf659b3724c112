use Rattle.replay.proofs.Kept.{asking_kept, queue_kept, past_all}
use Rattle.replay.proofs.keeping.replays_keep.Goals as goal

pub returns-clause-asking : goal.returns-clause-asking
returns-clause-asking g c m start log es answers old new before after n asks run = asking_kept run asks

pub returns-clause-queue : goal.returns-clause-queue
returns-clause-queue g c m start log es answers old new before after n idle run = queue_kept run idle

pub returns-clause-past : goal.returns-clause-past
returns-clause-past g c m start log es answers old new before after n run = past_all run
