-- The way back from a station by a row's predecessors.
--
--   traced row steps B    the stations that lead to B, each after its predecessor, and B last: as far back as there are predecessors,
--                         over so many steps at most
use Rattle.std.specs.Prelude.{ℕ, zero, suc, List, [], ◌∷◌, ◌++◌}
use Rattle.std.specs.Option.{option_map_or}
use Rattle.routes.specs.Row.{Row}

abbrev pub traced : {K : Type 0} → Row K → ℕ → ℕ → List ℕ
traced row zero B = B ∷ []
traced row (suc steps) B = option_map_or (traced row steps) (row.predecessors B) [] ++ B ∷ []
