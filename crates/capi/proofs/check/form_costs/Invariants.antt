-- The places before `station` hold the costs of the numbers, and the others what they held.
use Rattle.std.proofs.Common.{◌≡◌, ◌++◌, drop, take}
use Rattle.capi.specs.Check.{costs_of}
use Rattle.capi.proofs.check.form_costs.Given as goal

abbrev pub invariant-loop-station : goal.invariant-loop-station
invariant-loop-station g l = l.cost-items ≡ costs_of g.K.Cost.kind g.K.Cost.formed (take l.station l.numbers) ++ drop l.station l.initial.cost-items
