-- Where a cell lies in a table that was copied row after row, and what it tells.
use Rattle.std.specs.Prelude.{◌≡◌, ◌≢◌, ℕ, suc, ◌+◌, ◌*◌, ◌<◌, ◌≤◌, List, ◌++◌, Option, Some, None, length, drop, slice_index}
use Rattle.std.specs.List.{flat_map, range_with_len}
use Rattle.std.specs.Option.{unwrap_or}
use Rattle.std.proofs.Common.{◌∙◌, zero, refl, arith, ap, sym, ⊎_elim, mul-le-mul_right, suc-mul}
use Rattle.std.proofs.lemmas.Bool.{cases_lt}
use Rattle.std.proofs.lemmas.List.{get_or-append-add, get_or_append_left}
use Rattle.std.proofs.lemmas.List.FromFn.{get_or-map-range_with_len, length-map-range_with_len}
use Rattle.cost.specs.Kind.{Kind}
use Rattle.routes.specs.Network.{Network}
use Rattle.routes.proofs.JoinedWalks.{last_ends}
use Rattle.routes.specs.Row.{Right, Row}
use Rattle.routes.specs.Walk.{LastBefore}
use Rattle.listing.proofs.Ranges.{told_suc}
use Rattle.tables.specs.Copied.{befores, numbers, Copied}
use Rattle.capi.specs.Cells.{CellTold}
use Rattle.capi.specs.Tabled.{Bounds, Filled, Tabled}
use Rattle.capi.proofs.FilledRows.{length_rows}

module _ (f : ℕ → List ℕ) (n : ℕ) (each : (k : ℕ) → length (f k) ≡ n) (a b : ℕ) (there : b < n) where
  -- the place of the cell in the rows before k, once row a is among them
  placed : (k : ℕ) → a < k → slice_index (flat_map f (range_with_len 0 k)) (a * n + b) ≡ slice_index (f a) b
  placed zero below = absurd (omega (arith, below))
  placed (suc k) below =
      ap (λ (l : List ℕ). slice_index l (a * n + b)) (told_suc f k)
      ∙ ⊎_elim
      (λ (before : a < k).
      let rows : suc a * n ≤ k * n = mul-le-mul_right n before in
      let within : a * n + b < length (flat_map f (range_with_len 0 k)) = omega (arith, there, rows, suc-mul a n, length_rows f n each k) in
      get_or_append_left (flat_map f (range_with_len 0 k)) (f k) 0 (a * n + b) within ∙ placed k before)
      (λ (last : k ≤ a).
      let here : a ≡ k = omega (arith, below, last) in
      let at : a * n + b ≡ length (flat_map f (range_with_len 0 k)) + b = omega (arith, length_rows f n each k, ap (λ j. j * n) here) in
      ap (λ j. slice_index (flat_map f (range_with_len 0 k) ++ f k) j) at
      ∙ get_or-append-add (flat_map f (range_with_len 0 k)) (f k) b 0
      ∙ ap (λ j. slice_index (f j) b) (sym here))
      (cases_lt a k)

  -- and in the whole list
  pub cell_placed : a < n → (rest : List ℕ) → slice_index (flat_map f (range_with_len 0 n) ++ rest) (a * n + b) ≡ slice_index (f a) b
  cell_placed below rest =
      let rows : suc a * n ≤ n * n = mul-le-mul_right n below in
      let within : a * n + b < length (flat_map f (range_with_len 0 n)) = omega (arith, there, rows, suc-mul a n, length_rows f n each n) in
      get_or_append_left (flat_map f (range_with_len 0 n)) rest 0 (a * n + b) within ∙ placed n below

-- a predecessor that is given, by its number
given_by : {P : ℕ → Type 0} (o : Option ℕ) → ((p : ℕ) → o ≡ Some p → P p) → (unwrap_or o 65535 ≢ 65535) → P (unwrap_or o 65535)
given_by None so apart = absurd (apart refl)
given_by (Some p) so apart = so p refl

-- one that is missing
missing_by : (o : Option ℕ) → ((p : ℕ) → o ≡ Some p → p < 65535) → unwrap_or o 65535 ≡ 65535 → o ≡ None
missing_by None below is = refl
missing_by (Some p) below is = absurd (omega (arith, below p refl, is))

-- a cell of a right row
module _ {K : Type 0} (m : Kind K) (net : Network K) (a b : ℕ) (row_there : a < net.stations) (there : b < net.stations) (row : Row K) (bounds : Bounds net) (right : Right m net a row) where
  -- a predecessor is a station
  station : (p : ℕ) → row.predecessors b ≡ Some p → p < 65535
  station p is = let fits = last_ends bounds.between row_there (right.given b p there is) in omega (arith, bounds.few, fits)

  told_by : {x y : ℕ} → x ≡ m.rank (row.costs b) → y ≡ unwrap_or (row.predecessors b) 65535 → CellTold m net a b x y
  told_by number before = record {
    cost = row.costs b;
    least = right.least b there;
    number = number;
    missing = (
      λ is. (right.missing b there).0 (missing_by (row.predecessors b) station (sym before ∙ is)),
      λ none. before ∙ ap (λ o. unwrap_or o 65535) ((right.missing b there).1 none),
    );
    given = rw before (given_by {P = λ p. LastBefore m net a p b (row.costs b)} (row.predecessors b) (λ p is. right.given b p there is));
  }

module _ {K : Type 0} (m : Kind K) (net : Network K) (rows : ℕ → Row K) (xs xs' ys ys' : List ℕ) (filled : Filled m net rows xs xs' ys ys') (a b : ℕ) (row_there : a < net.stations) (there : b < net.stations) where
  abbrev n : ℕ
  n = net.stations

  number : slice_index xs' (a * n + b) ≡ m.rank ((rows a).costs b)
  number =
      ap (λ (l : List ℕ). slice_index l (a * n + b)) filled.costs
      ∙ cell_placed (λ k. numbers m n (rows k)) n (λ k. length-map-range_with_len (λ s. m.rank ((rows k).costs s)) 0 n) a b there row_there _
      ∙ get_or-map-range_with_len (λ s. m.rank ((rows a).costs s)) 0 n b b 0 there (omega arith)

  before : slice_index ys' (a * n + b) ≡ unwrap_or ((rows a).predecessors b) 65535
  before =
      ap (λ (l : List ℕ). slice_index l (a * n + b)) filled.predecessors
      ∙ cell_placed (λ k. befores n (rows k)) n (λ k. length-map-range_with_len (λ s. unwrap_or ((rows k).predecessors s) 65535) 0 n) a b there row_there _
      ∙ get_or-map-range_with_len (λ s. unwrap_or ((rows a).predecessors s) 65535) 0 n b b 0 there (omega arith)

  pub cell_told : Bounds net → Right m net a (rows a) → CellTold m net a b (slice_index xs' (a * n + b)) (slice_index ys' (a * n + b))
  cell_told bounds right = told_by m net a b row_there there (rows a) bounds right number before

-- of one row that was copied
pub row_told : {K : Type 0} (m : Kind K) (net : Network K) (row : Row K) (xs xs' ys ys' : List ℕ) → Bounds net → Copied m net.stations row xs xs' ys ys'
    → (a b : ℕ) → a < net.stations → b < net.stations → Right m net a row → CellTold m net a b (slice_index xs' b) (slice_index ys' b)
row_told m net row xs xs' ys ys' bounds copied a b row_there there right =
    let n : ℕ = net.stations in
    let number : slice_index xs' b ≡ m.rank (row.costs b) =
    ap (λ (l : List ℕ). slice_index l b) copied.costs
    ∙ get_or_append_left (numbers m n row) (drop n xs) 0 b (omega (arith, there, length-map-range_with_len (λ s. m.rank (row.costs s)) 0 n))
    ∙ get_or-map-range_with_len (λ s. m.rank (row.costs s)) 0 n b b 0 there (omega arith) in
    let before : slice_index ys' b ≡ unwrap_or (row.predecessors b) 65535 =
    ap (λ (l : List ℕ). slice_index l b) copied.predecessors
    ∙ get_or_append_left (befores n row) (drop n ys) 0 b (omega (arith, there, length-map-range_with_len (λ s. unwrap_or (row.predecessors s) 65535) 0 n))
    ∙ get_or-map-range_with_len (λ s. unwrap_or (row.predecessors s) 65535) 0 n b b 0 there (omega arith) in
    told_by m net a b row_there there row bounds right number before

pub cells_told : {K : Type 0} (m : Kind K) (net : Network K) (xs xs' ys ys' : List ℕ) → Tabled m net xs xs' ys ys' → (a b : ℕ) → a < net.stations → b < net.stations → CellTold m net a b (slice_index xs' (a * net.stations + b)) (slice_index ys' (a * net.stations + b))
cells_told m net xs xs' ys ys' tabled a b row_there there = cell_told m net tabled.rows xs xs' ys ys' tabled.filled a b row_there there tabled.bounds (tabled.right a row_there)
