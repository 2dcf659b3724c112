-- Header and records together are the encoding, which reads back.
use Rattle.std.proofs.Common.{arith, ◌+◌, ◌*◌, map, length, drop, refl}
use Rattle.std.proofs.lemmas.List.{length-map, take_at}
use Rattle.std.specs.List.{flat_map}
use Rattle.planfile.specs.Encoding.{file_of, header}
use Rattle.planfile.specs.Records.{field_bytes, fields_of}
use Rattle.planfile.proofs.BothWays.{plan_fits, reads_back, unambiguous, writable}
use Rattle.planfile.proofs.FileBytes.{length-file}
use Rattle.planfile.proofs.RecordBytes.{length-records}
use Rattle.planfile.proofs.Stored.{assembled}
use Rattle.planfile.proofs.writing.write.Goals as goal

pub returns-in_err-len-clause-accepts : goal.returns-in_err-len-clause-accepts
returns-in_err-len-clause-accepts g c sound enough =
    let none = writable g.K.Cost.kind g.K.FileKind.format c.args.stations c.args.links.now (length c.args.buffer.now) sound enough in
    cc (c.in_err-len.ensures.refused)

pub returns-in_err-len-clause-fits : goal.returns-in_err-len-clause-fits
returns-in_err-len-clause-fits g c n xs sound = plan_fits g.K.FileKind.format n xs c.new-field.result.ranged.far_out sound

pub returns-clause-fits : goal.returns-clause-fits
returns-clause-fits g c n xs sound = plan_fits g.K.FileKind.format n xs c.new-field.result.ranged.far_out sound

pub returns-in_err-len-clause-unambiguous : goal.returns-in_err-len-clause-unambiguous
returns-in_err-len-clause-unambiguous g c = unambiguous g.K.FileKind.format

pub returns-clause-unambiguous : goal.returns-clause-unambiguous
returns-clause-unambiguous g c = unambiguous g.K.FileKind.format

pub returns-clause-after : goal.returns-clause-after
returns-clause-after g c =
    let m = g.K.Cost.kind in
    let links = c.args.links.now in
    let xs = map (fields_of m) links in
    let count = length-map links (fields_of m) in
    rw (c.write_records.ensures.after, c.paste.ensures.after, c.header_bytes.ensures.value, count)
    (assembled (header g.K.FileKind.format c.args.stations (length links)) (flat_map field_bytes xs) c.args.buffer.now 10 (12 * length links) refl (omega (arith, length-records xs, count)))

pub returns-clause-reads_back : goal.returns-clause-reads_back
returns-clause-reads_back g c =
    let f = g.K.FileKind.format in
    let m = g.K.Cost.kind in
    let n = c.args.stations in
    let links = c.args.links.now in
    let file = file_of m f n links in
    let front = take_at file (drop (length file) c.args.buffer.now) (10 + 12 * length links) (length-file m f n links) in
    λ sound. rw (c.in_ok-len.ensures.value.0, returns-clause-after g c, front) (reads_back m g.K.Cost.formed g.met.K.Cost.numbered f c.new-field.result.range c.new-field.result.ranged n links sound)
