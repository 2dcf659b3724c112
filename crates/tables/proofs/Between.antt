-- Where links run between stations, they still do when one that does is put after them.
use Rattle.std.specs.Prelude.{◌≡◌, ◌≢◌, ℕ, ◌+◌, ◌<◌, ◌≤◌, List, length, slice_index_or, slice_set}
use Rattle.std.proofs.Common.{arith, sym, subst, ⊎_elim}
use Rattle.std.proofs.lemmas.Bool.{cases_lt}
use Rattle.std.proofs.lemmas.Grind.{get_or-set_at}
use Rattle.std.proofs.lemmas.List.{get_or-set_other}
use Rattle.cost.specs.declared.link.Link.{Link}

module _ {K : Type 0} (n : ℕ) where
  abbrev Runs : Link K → Type 0
  Runs l = (l.from < n) × (l.to < n)

  pub between_set : (count : ℕ) (xs : List (Link K)) (l : Link K) → ((k : ℕ) (d : Link K) → k < count → Runs (slice_index_or xs k d)) → Runs l → count < length xs → (k : ℕ) (d : Link K) → k < count + 1 → Runs (slice_index_or (slice_set xs count l) k d)
  between_set count xs l runs here room k d below =
      ⊎_elim
      (λ (before : k < count). let apart : k ≢ count = omega (arith, before) in subst Runs (sym (get_or-set_other xs count k l d apart)) (runs k d before))
      (λ (past : count ≤ k). let last : k ≡ count = omega (arith, past, below) in subst Runs (sym (get_or-set_at xs count k l d last room)) here)
      (cases_lt k count)
