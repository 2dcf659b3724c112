-- The least costs of a plan as lines: fields divided by one blank, each line ended by byte 10.
--
--   cost_word m c        the number of a cost, or the word far
--   cost_line m a b c    from a to b at cost c
--   pair_lines m v a b   that line for the cost that row a says of station b; nothing where the row is not worked
--   row_lines m v a      those lines of each station b
--   table_text m v       those of each row
--   pairs_text m n costs  a line for each pair of n stations, in row order, at the cost given
use Rattle.std.specs.Prelude.{ℕ, List, [], ◌++◌, ◌==◌, if◌then◌else◌, codes, decimal}
use Rattle.std.specs.List.{flat_map, range_with_len}
use Rattle.cost.specs.Kind.{Kind, FAR}
use Rattle.ledger.specs.View.{View}

module _ {K : Type 0} (m : Kind K) where
  abbrev pub cost_word : K → List ℕ
  cost_word c = if m.rank c == FAR then codes "far" else decimal (m.rank c)

  abbrev pub cost_line : ℕ → ℕ → K → List ℕ
  cost_line a b c = decimal a ++ (codes " " ++ (decimal b ++ (codes " " ++ (cost_word c ++ codes "\n"))))

  abbrev pub pair_lines : View K → ℕ → ℕ → List ℕ
  pair_lines v a b = if v.ledger.marked a then cost_line a b ((v.rows a).costs b) else []

  abbrev pub row_lines : View K → ℕ → List ℕ
  row_lines v a = flat_map (pair_lines v a) (range_with_len 0 v.ledger.stations)

  abbrev pub table_text : View K → List ℕ
  table_text v = flat_map (row_lines v) (range_with_len 0 v.ledger.stations)

  abbrev pub pairs_text : ℕ → (ℕ → ℕ → K) → List ℕ
  pairs_text n costs = flat_map (λ a. flat_map (λ b. cost_line a b (costs a b)) (range_with_len 0 n)) (range_with_len 0 n)
