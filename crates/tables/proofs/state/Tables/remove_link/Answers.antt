use Rattle.std.proofs.Common.{refl, rules}
use Rattle.tables.proofs.Changed.{links_changed}
use Rattle.tables.proofs.Finding.{without_found}
use Rattle.tables.proofs.state.Tables.remove_link.Goals as goal

pub returns-clause-effect : goal.returns-clause-effect
returns-clause-effect g c = links_changed g.K.Cost.kind _ _ c.args.self.now c.take_out.new.self tt c.in_ok-place.ensures.refused (search (rules, without_found)) refl
