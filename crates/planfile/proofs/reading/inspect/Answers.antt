-- A file whose header passes is the encoding of what it holds.
use Rattle.planfile.proofs.FileBytes.{file_is_encoding}
use Rattle.planfile.proofs.reading.inspect.Goals as goal

pub returns-clause-encoded : goal.returns-clause-encoded
returns-clause-encoded g c =
    let head = c.in_ok-counts.ensures in
    rw head.stations (file_is_encoding g.K.FileKind.format c.args.places c.args.bytes.now head.passes head.long (λ i. (c.type_inv.bytes i).fits))
