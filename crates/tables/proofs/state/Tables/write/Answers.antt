use Rattle.std.specs.Prelude.{◌≤◌, length, take}
use Rattle.std.proofs.Common.{arith}
use Rattle.std.proofs.lemmas.List.{length-take}
use Rattle.tables.proofs.Rereading.{written_again}
use Rattle.tables.proofs.NeverLong.{never_long}
use Rattle.tables.proofs.state.Tables.write.Goals as goal

pub returns-clause-reads_back : goal.returns-clause-reads_back
returns-clause-reads_back g c =
    written_again g.K.Cost.kind g.K.Cost.formed _ _ c.args.buffer.now c.write_file.new.buffer c.write_file.result c.write_file.ensures.refused c.write_file.ensures.reads_back

pub returns-clause-never_2 : goal.returns-clause-never_2
returns-clause-never_2 g c = let t = c.args.self.now in
    let links = take t.count t.list.now in
    let short : length links ≤ 4096 = omega (arith, t.short, length-take t.count t.list.now) in
    rw c.write_file.ensures.refused (never_long g.K.Cost.kind g.K.FileKind.format t.stations links (length c.args.buffer.now) short)
