-- When a call is refused.
--
--   count_refusal n         a station count of 0, or above the greatest
--   station_refusal m s     a station number of the count or more
use Rattle.std.specs.Prelude.{ℕ, ◌||◌, None, Option, ◌==◌, nat_le, nat_lt}
use Rattle.refusal.specs.Code.{bare}
use Rattle.refusal.specs.First.{refused_if}
use Rattle.refusal.specs.declared.Code.{Code}
use Rattle.queue.specs.Meaning.{Meaning, most_stations}

abbrev pub count_refusal : ℕ → Option Code
count_refusal n = refused_if (n == 0 || nat_lt most_stations n) (bare 1) None

abbrev pub station_refusal : Meaning → ℕ → Option Code
station_refusal m s = refused_if (nat_le m.stations s) (bare 3) None
