-- Commissioning clears every row, and where the tables have no cells more, each cell.
use Rattle.std.specs.Prelude.{◌≡◌, ℕ, ◌+◌, ◌*◌, ◌<◌, ◌≤◌, List, length, replicate}
use Rattle.std.proofs.Common.{◌∙◌, arith, ap, zero-le, ⊎_elim}
use Rattle.std.proofs.Math.Path.{fun_ext}
use Rattle.std.proofs.lemmas.List.{get_or-replicate, length-replicate, same_lists}
use Rattle.std.proofs.lemmas.Bool.{cases_lt}
use Rattle.std.proofs.lemmas.Bool.Decides.{nat_tests}
use Rattle.cost.specs.Kind.{Kind}
use Rattle.ledger.specs.View.{cleared, stored}
use Rattle.tables.specs.Filled.{Filled}
use Rattle.tables.specs.View.{cell, row_in}
use Rattle.tables.proofs.Cells.{cell_fits}

module _ {X : Type 0} (n : ℕ) (x : X) {xs ys : List X} (filled : Filled 0 (n * n) x xs ys) where
  filled_cell : (a v : ℕ) → a < n → cell n ys x a v ≡ x
  filled_cell a v below =
      ⊎_elim
      (λ (within : v < n). let e = filled.inside (a * n + v) x zero-le (cell_fits n a v (n * n) below within (omega arith)) in grind (arith, nat_tests, e))
      (λ (past : n ≤ v). grind (arith, nat_tests))
      (cases_lt v n)

  filled_cells : (a : ℕ) → a < n → cell n ys x a ≡ (λ v. x)
  filled_cells a below = fun_ext (λ v. filled_cell a v below)

  pub all_filled : length xs ≡ n * n → ys ≡ replicate (n * n) x
  all_filled whole =
      let long : length ys ≡ n * n = filled.long ∙ whole in
      same_lists ys (replicate (n * n) x) (omega (arith, long, length-replicate (n * n) x)) (λ k d within. let inside : k < n * n = omega arith in grind (arith, filled.inside k d zero-le inside, get_or-replicate (n * n) k x d inside))

pub filled_row : {K : Type 0} (m : Kind K) (n : ℕ) {xs xs' : List K} {ys ys' : List ℕ} → Filled 0 (n * n) m.far xs xs' → Filled 0 (n * n) 65535 ys ys' → (a : ℕ) → a < n → row_in m n xs' ys' a ≡ cleared m
filled_row m n {ys' = ys'} costs predecessors a below =
    ap (λ f. record { costs = f; predecessors = λ v. stored (cell n ys' 65535 a v) }) (filled_cells n m.far costs a below)
    ∙ ap (λ f. record { costs = λ v. m.far; predecessors = λ v. stored (f v) }) (filled_cells n 65535 predecessors a below)
