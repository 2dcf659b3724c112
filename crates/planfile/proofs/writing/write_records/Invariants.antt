-- The records before `index` stand after the header, and the bytes past them are as they were.
use Rattle.std.proofs.Common.{◌≡◌, ◌+◌, ◌*◌, ◌++◌, drop}
use Rattle.planfile.proofs.Stored.{begun}
use Rattle.planfile.proofs.writing.write_records.Given as goal

abbrev pub invariant-loop-index : goal.invariant-loop-index
invariant-loop-index g l = l.buffer ≡ begun g.K.Cost.kind l.links l.initial.buffer l.index ++ drop (10 + 12 * l.index) l.initial.buffer
