-- What a call leaves.
--
--   fresh n              n stations, nobody waiting, nothing taken
--   at_rank o x          the rank of a station that waited as o says and is put at x: never above the one it had
--   after_put m s x      station s waits at that rank; all else stays
--   after_take m s       station s waits no more, and one more was taken
--   Untaken m m'         nobody waits, and nothing changes
--   Taken m s m'         station s is one of the lowest rank, and is taken
--   Takes m r m'         taking from m may answer r and leave m': none where nobody waits, else any station of the lowest rank
use Rattle.std.specs.Prelude.{◌≡◌, ℕ, ◌+◌, min, Some, None, Option, nat_eq}
use Rattle.std.specs.Map.{update}
use Rattle.queue.specs.Meaning.{Meaning, Nobody, Lowest, most_taken}

abbrev pub fresh : ℕ → Meaning
fresh n = record { stations = n; ranks = λ s. None; taken = 0 }

abbrev pub at_rank : Option ℕ → ℕ → ℕ
at_rank None x = x
at_rank (Some before) x = min before x

abbrev pub after_put : Meaning → ℕ → ℕ → Meaning
after_put m s x = record {
  stations = m.stations;
  ranks = update nat_eq m.ranks s (Some (at_rank (m.ranks s) x));
  taken = m.taken;
}

abbrev pub after_take : Meaning → ℕ → Meaning
after_take m s = record {
  stations = m.stations;
  ranks = update nat_eq m.ranks s None;
  taken = min (m.taken + 1) most_taken;
}

pub record Untaken (m m' : Meaning) : Type 0 where
  pub nobody : Nobody m
  pub same : m' ≡ m

pub record Taken (m : Meaning) (s : ℕ) (m' : Meaning) : Type 0 where
  pub lowest : Lowest m s
  pub after : m' ≡ after_take m s

abbrev pub Takes : Meaning → Option ℕ → Meaning → Type 0
Takes m None m' = Untaken m m'
Takes m (Some s) m' = Taken m s m'
