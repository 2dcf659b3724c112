-- Nobody waits who did not wait before.
use Rattle.std.proofs.Common.{arith, ap, ◌∙◌}
use Rattle.std.proofs.lemmas.Bool.Decides.{nat_tests}
use Rattle.heap.proofs.calls.HeapQueue.take.Goals as goal

pub invariant_of-self-2-clause-only_stations_wait : goal.invariant_of-self-2-clause-only_stations_wait
invariant_of-self-2-clause-only_stations_wait c = λ s l. ap (λ m. m s) c.in_ok-station.ensures.popped.after ∙ grind (arith, nat_tests, c.args.self.now.only_stations_wait s l)
