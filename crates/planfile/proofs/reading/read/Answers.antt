-- The encoding of a sound plan is never refused, and an accepted file holds what was read.
use Rattle.std.proofs.Common.{◌≡◌, length, drop, None}
use Rattle.planfile.specs.Reading.{reading_refusal}
use Rattle.planfile.proofs.BothWays.{accepted, file_holds}
use Rattle.planfile.proofs.FrontLinks.{links_first}
use Rattle.planfile.proofs.reading.read.Goals as goal

pub returns-in_err-counts-clause-accepts : goal.returns-in_err-counts-clause-accepts
returns-in_err-counts-clause-accepts g c =
    let f = g.K.FileKind.format in
    let places = length c.args.list.now in
    let ranged = c.new-field.result.ranged in
    λ n xs sound some few enough e.
    let none : reading_refusal f places c.args.bytes.now ≡ None = rw (← e) (accepted f n xs places ranged.byte_fits ranged.far_out sound some few enough) in
    cc (c.in_err-counts.ensures.refused)

pub returns-clause-holds : goal.returns-clause-holds
returns-clause-holds g c =
    let m = g.K.Cost.kind in
    let formed = g.K.Cost.formed in
    let bs = c.args.bytes.now in
    let list = c.args.list.now in
    let told = c.in_ok-counts.ensures in
    rw (c.store.ensures.after, told.records, told.value, links_first m formed bs (drop (length c.in_ok-counts.records.now) list))
    (file_holds m formed g.met.K.Cost.numbered g.met.K.Cost.lawful g.K.FileKind.format c.new-field.result.range c.new-field.result.ranged (length list) bs (rw (← told.refused)) (rw told.value at told.encoded))
