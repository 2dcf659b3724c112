-- A table as numbers: row after row, in two lists of the caller's.
--
--   table_numbers m n rows     the costs of the rows of n stations, by their ranks
--   table_befores n rows       their predecessors; 65,535 for none
--   Bounds net                 there are at most 256 stations, and each link runs from one of them to one of them
--   Filled m net rows xs xs' ys ys'   both stand at the start of the lists xs' and ys', which were xs and ys; the places after them stay
--   Tabled m net xs xs' ys ys'        some rows of a network in these bounds do, and each of them is right
use Rattle.std.specs.Prelude.{◌≡◌, ℕ, ◌*◌, ◌<◌, ◌≤◌, ◌++◌, List, drop}
use Rattle.std.specs.List.{flat_map, range_with_len}
use Rattle.cost.specs.Kind.{Kind}
use Rattle.queue.specs.Meaning.{most_stations}
use Rattle.routes.specs.Network.{Between, Network}
use Rattle.routes.specs.Row.{Row, Right}
use Rattle.tables.specs.Copied.{befores, numbers}

abbrev pub table_numbers : {K : Type 0} → Kind K → ℕ → (ℕ → Row K) → List ℕ
table_numbers m n rows = flat_map (λ a. numbers m n (rows a)) (range_with_len 0 n)

abbrev pub table_befores : {K : Type 0} → ℕ → (ℕ → Row K) → List ℕ
table_befores n rows = flat_map (λ a. befores n (rows a)) (range_with_len 0 n)

pub record Bounds {K : Type 0} (net : Network K) : Type 0 where
  pub few : net.stations ≤ most_stations
  pub between : Between net

module _ {K : Type 0} (m : Kind K) (net : Network K) where
  pub record Filled (rows : ℕ → Row K) (xs xs' ys ys' : List ℕ) : Type 0 where
    pub costs : xs' ≡ table_numbers m net.stations rows ++ drop (net.stations * net.stations) xs
    pub predecessors : ys' ≡ table_befores net.stations rows ++ drop (net.stations * net.stations) ys

  pub record Tabled (xs xs' ys ys' : List ℕ) : Type 0 where
    pub bounds : Bounds net
    pub rows : ℕ → Row K
    pub right : (a : ℕ) → a < net.stations → Right m net a (rows a)
    pub filled : Filled rows xs xs' ys ys'
