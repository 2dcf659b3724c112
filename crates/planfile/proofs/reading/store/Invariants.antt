-- The places before `index` hold the links of the records, and the others what they held.
use Rattle.std.proofs.Common.{◌≡◌, ◌++◌, map, take, drop}
use Rattle.planfile.specs.Records.{first_fields, link_of}
use Rattle.planfile.proofs.reading.store.Given as goal

abbrev pub invariant-loop-index : goal.invariant-loop-index
invariant-loop-index g l = l.place-items ≡ map (link_of g.K.Cost.kind g.K.Cost.formed) (map first_fields (take l.index l.records)) ++ drop l.index l.initial.place-items
