-- Going along a row, station after station: what is left to offer ends where the whole does.
use Rattle.std.specs.Prelude.{◌≡◌, ℕ, suc, ◌+◌, ◌-◌, ◌<◌, ◌≤◌}
use Rattle.std.specs.List.{range_with_len}
use Rattle.std.proofs.Common.{◌∙◌, arith, sym, ap}
use Rattle.cost.specs.Kind.{Kind}
use Rattle.routes.specs.Row.{Row}
use Rattle.routes.specs.State.{State}
use Rattle.routes.specs.Offers.{offered, offered_all}
use Rattle.tables.specs.Following.{along, along_cell}

-- s is the state in which the stations before v have been offered, s0 that before any
pub record Alongside {K : Type 0} (m : Kind K) (label : K) (row : Row K) (n v : ℕ) (s0 s : State K) : Type 0 where
  pub rest : offered_all m s (along m label row (range_with_len v (n - v))) ≡ offered_all m s0 (along m label row (range_with_len 0 n))

module _ {K : Type 0} (m : Kind K) (label : K) (row : Row K) (n : ℕ) where
  pub none_yet : (s : State K) → Alongside m label row n 0 s s
  none_yet s =
      let whole : n - 0 ≡ n = omega arith in
      record { rest = ap (λ k. offered_all m s (along m label row (range_with_len 0 k))) whole }

  pub one_more : {v : ℕ} {s0 s s' : State K} {row' : Row K} → v < n → row' ≡ row → Alongside m label row n v s0 s → s' ≡ offered m s (along_cell m label row' v) → Alongside m label row n (v + 1) s0 s'
  one_more {v} {s0} {s} {s'} {row'} fits same so_far step =
      let first : n - v ≡ suc (n - (v + 1)) = omega arith in
      let here : s' ≡ offered m s (along_cell m label row v) = step ∙ ap (λ r. offered m s (along_cell m label r v)) same in
      record {
        rest = ap (λ e. offered_all m e (along m label row (range_with_len (v + 1) (n - (v + 1))))) here
            ∙ ap (λ k. offered_all m s (along m label row (range_with_len v k))) (sym first)
            ∙ so_far.rest;
      }

  pub all_done : (v : ℕ) (s0 s : State K) → n ≤ v → Alongside m label row n v s0 s → s ≡ offered_all m s0 (along m label row (range_with_len 0 n))
  all_done v s0 s past so_far =
      let none : n - v ≡ 0 = omega arith in
      ap (λ k. offered_all m s (along m label row (range_with_len v k))) (sym none) ∙ so_far.rest
