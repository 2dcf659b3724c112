use Rattle.tables.proofs.Repeated.{read_twice}
use Rattle.tables.proofs.again.again_is_no_change.Goals as goal

pub returns-clause-read : goal.returns-clause-read
returns-clause-read g c m formed bs t t' t'' first again = read_twice first again
