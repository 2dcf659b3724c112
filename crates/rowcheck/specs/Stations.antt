-- Stations, tested one after the other.
--
--   Tested n cause r    r is accepted where none of n stations has a cause, and else names one that has, with the cause
--   own_cause B         the first cause by which B fails whatever links there are: a wrong source, a wrong reach, or a predecessor
--                       that is no station
use Rattle.std.specs.Prelude.{◌≡◌, ℕ, ◌<◌, false, Result, Some, None, Option, nat_le, MatchResult}
use Rattle.std.specs.Option.{option_map_or}
use Rattle.cost.specs.Kind.{Kind}
use Rattle.refusal.specs.First.{refused_if}
use Rattle.refusal.specs.declared.Failing.{Failing}
use Rattle.routes.specs.Fails.{wrong_source, wrong_reach}
use Rattle.routes.specs.Network.{Network}
use Rattle.routes.specs.Row.{Row}

abbrev pub Tested : ℕ → (ℕ → Option ℕ) → Result (Unit {0}) Failing → Type 0
Tested n cause r = MatchResult r (λ _. (B : ℕ) → B < n → cause B ≡ None) (λ f. (f.station < n) × (cause f.station ≡ Some f.cause))

abbrev pub own_cause : {K : Type 0} → Kind K → Network K → ℕ → Row K → ℕ → Option ℕ
own_cause m net A row B =
    refused_if (wrong_source m net A row B) 1
    (refused_if (wrong_reach m net A row B) 2
    (refused_if (option_map_or (nat_le net.stations) (row.predecessors B) false) 3 None))
