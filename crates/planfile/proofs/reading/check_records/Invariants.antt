-- The records before `index` have no fault, and the table tells of their pairs.
use Rattle.planfile.proofs.FirstFault.{Searched}
use Rattle.planfile.proofs.reading.check_records.Given as goal

abbrev pub invariant-loop-index : goal.invariant-loop-index
invariant-loop-index g l = Searched g.K.FileKind.format l.stations l.records l.index l.seen.stations l.seen.seen
