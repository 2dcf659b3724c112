-- Costs from numbers. The number of a cost is its rank.
--
--   Forms m formed    a number forms a cost of that rank, and forms none only where no cost has that rank
use Rattle.std.specs.Prelude.{◌≡◌, ℕ, ◌≤◌, Option, MatchOption, ◌≢◌}
use Rattle.cost.specs.Kind.{Kind, FAR}

abbrev pub Forms : {K : Type 0} → Kind K → (ℕ → Option K) → Type 0
Forms {K} m formed = (v : ℕ) → v ≤ FAR → MatchOption (formed v) ((c : K) → m.rank c ≢ v) (λ c. m.rank c ≡ v)
