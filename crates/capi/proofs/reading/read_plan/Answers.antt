use Rattle.std.proofs.Common.{◌∙◌}
use Rattle.capi.proofs.Capped.{read_alike}
use Rattle.capi.proofs.reading.read_plan.Goals as goal

pub returns-clause-refused : goal.returns-clause-refused
returns-clause-refused g c =
    c.read.ensures.refused ∙ read_alike g.K.FileKind.format 4096 c.args.file.now c.args.costs c.args.predecessors c.requires.list c.requires.cells c.requires.befores
