use Rattle.std.proofs.Common.{false}
use Rattle.tables.proofs.Unmarked.{all_alike}
use Rattle.tables.proofs.commissioning.none_worked.Goals as goal

pub returns-clause-off : goal.returns-clause-off
returns-clause-off c a = all_alike 256 a false
