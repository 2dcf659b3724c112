use Rattle.std.proofs.Common.{ap, length, rules}
use Rattle.campuses.proofs.Tables.{table_h, replay_accepted, answers_are, spots_are}
use Rattle.campuses.proofs.answers.work_h.Goals as goal

pub returns-clause-accepted : goal.returns-clause-accepted
returns-clause-accepted g c zeros =
    replay_accepted (table_h (ap length c.new-plan.ensures.list) zeros) c.calls_on_h.result c.calls_on_h.ensures.calls _ _ (ap length zeros) c.told-answers
    c.replay.result c.replay.ensures.refused

pub returns-clause-answers : goal.returns-clause-answers
returns-clause-answers g c zeros =
    answers_are (table_h (ap length c.new-plan.ensures.list) zeros) c.calls_on_h.result c.calls_on_h.ensures.calls _ _ _ _
    c.replay.result (returns-clause-accepted g c zeros) c.replay.ensures.replayed c.in_ok-make.ensures.commissioned (search rules)

pub returns-clause-routes : goal.returns-clause-routes
returns-clause-routes g c zeros =
    spots_are (table_h (ap length c.new-plan.ensures.list) zeros) c.calls_on_h.result c.calls_on_h.ensures.calls _ _ _ _
    c.replay.result (returns-clause-accepted g c zeros) c.replay.ensures.replayed c.in_ok-make.ensures.commissioned c.replay.ensures.pool_past (ap length zeros)
