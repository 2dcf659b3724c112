-- The stations that fail, as a list.
--
--   failures m net A row    every station that fails, beside the cause, by each number from 0 to 6, in order
use Rattle.std.specs.Prelude.{ℕ, List, map}
use Rattle.std.specs.List.{filter, flat_map, range_with_len}
use Rattle.cost.specs.Kind.{Kind}
use Rattle.routes.specs.Network.{Network}
use Rattle.routes.specs.Row.{Row}
use Rattle.routes.specs.Fails.{fails}

-- every one of n stations beside every number from 0 to 6
abbrev pub pairs : ℕ → List (ℕ × ℕ)
pairs n = flat_map (λ B. map (λ cause. (B, cause)) (range_with_len 0 7)) (range_with_len 0 n)

abbrev pub failures : {K : Type 0} → Kind K → Network K → ℕ → Row K → List (ℕ × ℕ)
failures m net A row = filter (λ p. fails m net A row p.0 p.1) (pairs net.stations)
