-- A row as numbers, at the start of two lists of the caller's.
--
--   numbers m n row    the ranks of its costs of n stations
--   befores n row      their predecessors; 65,535 for none
--   copy_refusal g a xs ys         which refusal copying row a meets, into lists of so many places
--   Copied m n row xs xs' ys ys'   both stand at the start of the lists xs' and ys', which were xs and ys; the places after them stay
--   CopyEffect m v a xs xs' ys ys' r   row a is copied, or refused, and then both lists stay
use Rattle.std.specs.Prelude.{◌≡◌, ℕ, not, ◌||◌, ◌++◌, List, map, length, drop, Option, None, Result, OnOk, OnErr, nat_lt}
use Rattle.std.specs.List.{range_with_len}
use Rattle.std.specs.Option.{unwrap_or}
use Rattle.cost.specs.Kind.{Kind}
use Rattle.refusal.specs.Code.{bare}
use Rattle.refusal.specs.First.{refused_if, told}
use Rattle.refusal.specs.declared.Code.{Code}
use Rattle.refusal.specs.declared.Refusal.{Refusal}
use Rattle.routes.specs.Row.{Row}
use Rattle.ledger.specs.Ledger.{Ledger}
use Rattle.ledger.specs.Refusals.{no_station}
use Rattle.ledger.specs.View.{View}

abbrev pub numbers : {K : Type 0} → Kind K → ℕ → Row K → List ℕ
numbers m n row = map (λ b. m.rank (row.costs b)) (range_with_len 0 n)

abbrev pub befores : {K : Type 0} → ℕ → Row K → List ℕ
befores n row = map (λ b. unwrap_or (row.predecessors b) 65535) (range_with_len 0 n)

abbrev pub copy_refusal : {K : Type 0} → Ledger K → ℕ → List ℕ → List ℕ → Option Code
copy_refusal g a xs ys =
    refused_if (no_station g a) (bare 3)
    (refused_if (not (g.marked a)) (bare 10)
    (refused_if (nat_lt (length xs) g.stations || nat_lt (length ys) g.stations) (bare 12) None))

pub record Copied {K : Type 0} (m : Kind K) (n : ℕ) (row : Row K) (xs xs' ys ys' : List ℕ) : Type 0 where
  pub costs : xs' ≡ numbers m n row ++ drop n xs
  pub predecessors : ys' ≡ befores n row ++ drop n ys

pub record CopyEffect {K T : Type 0} (m : Kind K) (v : View K) (a : ℕ) (xs xs' ys ys' : List ℕ) (r : Result T Refusal) : Type 0 where
  pub refusal : told r ≡ copy_refusal v.ledger a xs ys
  pub copied : OnOk r (Copied m v.ledger.stations (v.rows a) xs xs' ys ys')
  pub kept : OnErr r ((xs' ≡ xs) × (ys' ≡ ys))
