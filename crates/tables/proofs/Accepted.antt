-- An offer that is accepted is written where the row keeps its label, its predecessor and its first station.
use Rattle.std.specs.Prelude.{◌≡◌, ℕ, ◌+◌, ◌*◌, ◌<◌, ◌≤◌, ◌||◌, Bool, true, List, Option, None, length, slice_index_or, slice_set, nat_lt, is_some, if◌then◌else◌}
use Rattle.std.proofs.Common.{◌∙◌, refl, arith}
use Rattle.std.proofs.lemmas.Bool.Decides.{nat_tests}
use Rattle.cost.specs.Kind.{Kind}
use Rattle.queue.specs.Meaning.{Meaning}
use Rattle.queue.specs.Calls.{after_put}
use Rattle.routes.specs.State.{State}
use Rattle.routes.specs.Offers.{Offer, offered, accepted}
use Rattle.ledger.specs.View.{stored}
use Rattle.tables.specs.View.{cell, row_in}
use Rattle.tables.proofs.Cells.{cell_is_written, numbers_are_written, set_is_written}

module _ {K : Type 0} (m : Kind K) (n a : ℕ) where
  abbrev pub state_in : List K → List ℕ → List (Option ℕ) → Meaning → State K
  state_in xs ys fs q = record { row = row_in m n xs ys a; firsts = λ v. slice_index_or fs v None; queue = q }

  pub accepted_state : (xs xs' : List K) (ys ys' : List ℕ) (fs : List (Option ℕ)) (q q' : Meaning) (at u p : ℕ) (c : K) (first : Option ℕ) (puts : Bool) →
      a < n → u < n → n * n ≤ length xs → n * n ≤ length ys → u < length fs →
      at ≡ a * n + u → xs' ≡ slice_set xs at c → ys' ≡ slice_set ys at p →
      m.rank c < m.rank (slice_index_or xs at m.far) →
      q' ≡ (if puts || is_some (q.ranks u) then after_put q u (m.rank c) else q) →
      state_in xs' ys' (slice_set fs u first) q' ≡ offered m (state_in xs ys fs q) (record { station = u; cost = c; predecessor = stored p; first = first; puts = puts })
  accepted_state xs xs' ys ys' fs q q' at u p c first puts below fits longx longy longf place setx sety less put =
      let o : Offer K = record { station = u; cost = c; predecessor = stored p; first = first; puts = puts } in
      let written_row : state_in xs' ys' (slice_set fs u first) q' ≡ accepted m (state_in xs ys fs q) o =
      rw (setx, sety, place, cell_is_written n xs m.far c a u below fits longx, numbers_are_written n ys a u p below fits longy, set_is_written fs None first u longf, put) refl in
      let taken_up : nat_lt (m.rank c) (m.rank (cell n xs m.far a u)) ≡ true = grind (arith, nat_tests, less, fits, place) in
      written_row ∙ rw taken_up refl
