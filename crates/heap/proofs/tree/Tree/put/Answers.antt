-- A lower rank is held where the station stands.
use Rattle.std.proofs.Common.{arith, ◌∙◌}
use Rattle.std.proofs.lemmas.Bool.Decides.{nat_tests}
use Rattle.heap.specs.Seating.{seating}
use Rattle.heap.proofs.Waiters.{lowered}
use Rattle.heap.proofs.tree.Tree.put.Goals as goal

pub returns-in-Some-clause-waiting : goal.returns-in-Some-clause-waiting
returns-in-Some-clause-waiting c = c.sift_up.ensures.waiting ∙ lowered (seating c.args.self.now) c.in-Some.place (record { rank = c.args.rank; station = c.args.station }) c.requires.whole (omega arith) c.in-Some.ensures.there c.in-Some.ensures.counts (grind (arith, nat_tests, c.entry.ensures, c.precedes.ensures, c.if-precedes.ensures))
