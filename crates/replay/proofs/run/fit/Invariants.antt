use Rattle.std.proofs.Common.{◌≡◌, ◌+◌, take}
use Rattle.std.specs.List.{sum_by}
use Rattle.replay.specs.Entries.{places_of}
use Rattle.replay.proofs.run.fit.Given as goal

abbrev pub invariant-loop-entry : goal.invariant-loop-entry
invariant-loop-entry g l = l.left + sum_by places_of (take l.entry-index l.entries) ≡ l.places
