use Rattle.std.proofs.Common.{refl, ap, length, rules}
use Rattle.campuses.proofs.Tables.{table_j, replay_accepted, answers_are}
use Rattle.campuses.proofs.answers.work_j.Goals as goal

pub returns-clause-accepted : goal.returns-clause-accepted
returns-clause-accepted g c =
    replay_accepted (table_j (ap length c.new-plan.ensures.list)) c.calls_on_j.result c.calls_on_j.ensures.calls _ _ refl c.told-answers
    c.replay.result c.replay.ensures.refused

pub returns-clause-answers : goal.returns-clause-answers
returns-clause-answers g c =
    answers_are (table_j (ap length c.new-plan.ensures.list)) c.calls_on_j.result c.calls_on_j.ensures.calls _ _ _ _
    c.replay.result (returns-clause-accepted g c) c.replay.ensures.replayed c.in_ok-make.ensures.commissioned (search rules)
