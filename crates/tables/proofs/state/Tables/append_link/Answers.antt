use Rattle.std.proofs.Common.{refl, rules}
use Rattle.tables.proofs.Changed.{links_changed}
use Rattle.tables.proofs.state.Tables.append_link.Goals as goal

pub returns-clause-effect : goal.returns-clause-effect
returns-clause-effect g c = links_changed g.K.Cost.kind _ _ c.args.self.now c.push_link.new.self tt c.in_ok-test_link.ensures.refused (search rules) refl
