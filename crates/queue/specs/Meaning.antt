-- What a queue is, whatever it is made of.
--
--   Meaning            how many stations there are, the rank of each station that waits, and the number taken
--   most_stations      the greatest station count
--   most_taken         where the number taken stops
--   Sound m            what holds of every queue's meaning: a count from 1 to the greatest, only stations wait,
--                      and the number taken is at most where it stops
--   Waits m s x        station s waits at rank x
--   Nobody m           nobody waits
--   Lowest m s         station s waits, and nobody waits at a lower rank
use Rattle.std.specs.Prelude.{◌≡◌, ℕ, ◌≤◌, Some, None, Option}

pub record Meaning : Type 0 where
  pub stations : ℕ
  pub ranks : ℕ → Option ℕ
  pub taken : ℕ

abbrev pub most_stations : ℕ
most_stations = 256

abbrev pub most_taken : ℕ
most_taken = 65535

pub record Sound (m : Meaning) : Type 0 where
  pub some_station : 1 ≤ m.stations
  pub not_too_many : m.stations ≤ most_stations
  pub only_stations_wait : (s : ℕ) → m.stations ≤ s → m.ranks s ≡ None
  pub taken_stops : m.taken ≤ most_taken

abbrev pub Waits : Meaning → ℕ → ℕ → Type 0
Waits m s x = m.ranks s ≡ Some x

abbrev pub Nobody : Meaning → Type 0
Nobody m = (s : ℕ) → m.ranks s ≡ None

pub record Lowest (m : Meaning) (s : ℕ) : Type 0 where
  pub rank : ℕ
  pub waits : Waits m s rank
  pub least : (t x : ℕ) → Waits m t x → rank ≤ x
