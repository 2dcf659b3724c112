-- The lent slices are those of the plan, which the row was worked in.
use Rattle.std.proofs.Common.{rules}
use Rattle.usage.proofs.FileRow.{file_list, file_row}
use Rattle.usage.proofs.lent.work_row_of_file.Goals as goal

pub returns : goal.returns
returns g c = record {
  right =
      file_row g.K.Cost.kind g.K.Cost.formed c.args.bytes.now c.args.source _ _ _ _ c.read.new.self c.work.new.self c.work.result _ _
      c.in_ok-read.ensures.left c.in_ok-read.ensures.commissioned c.work.ensures.answer c.work.ensures.left (search rules) (search rules);
  list =
      file_list g.K.Cost.kind g.K.Cost.formed c.args.bytes.now c.args.source c.new-plan.result c.read.new.self c.work.new.self c.work.result _ _
      c.in_ok-read.ensures.left c.work.ensures.left (search rules) c.new-plan.ensures.list;
}
