-- Where only stations below a bound wait, nobody does or one of the lowest rank does.
use Rattle.std.proofs.Common.{◌≡◌, ℕ, zero, suc, ◌<◌, ◌≤◌, ◌⊎◌, inl, inr, ⊎_elim, Option, Some, None, refl, arith}
use Rattle.std.proofs.lemmas.Bool.{cases_eq, cases_lt}
use Rattle.queue.specs.Meaning.{Meaning, Waits, Nobody, Lowest}

-- station s waits, and nobody below k at a lower rank
record LowestBelow (m : Meaning) (k s : ℕ) : Type 0 where
  rank : ℕ
  waits : Waits m s rank
  least : (t x : ℕ) → t < k → Waits m t x → rank ≤ x

-- nobody below k waits, or somebody does and has the lowest rank of them
abbrev Found : Meaning → ℕ → Type 0
Found m k = ((s : ℕ) → s < k → m.ranks s ≡ None) ⊎ ((t : ℕ) × LowestBelow m k t)

found_more : (m : Meaning) (k : ℕ) (o : Option ℕ) → m.ranks k ≡ o → Found m k → Found m (suc k)
found_more m k None e (inl none) = inl (λ s l. grind (arith, cases_eq s k, none s))
found_more m k None e (inr (t, low)) = inr (t, record { rank = low.rank; waits = low.waits; least = λ s x l w. grind (arith, cases_eq s k, low.least s x) })
found_more m k (Some y) e (inl none) = inr (k, record { rank = y; waits = e; least = λ s x l w. grind (arith, cases_eq s k, none s) })
found_more m k (Some y) e (inr (t, low)) =
    ⊎_elim
    (λ below. inr (k, record { rank = y; waits = e; least = λ s x l w. grind (arith, cases_eq s k, low.least s x) }))
    (λ above. inr (t, record { rank = low.rank; waits = low.waits; least = λ s x l w. grind (arith, cases_eq s k, low.least s x) }))
    (cases_lt y low.rank)

found : (m : Meaning) (k : ℕ) → Found m k
found m zero = inl (λ s l. absurd (omega arith))
found m (suc k) = found_more m k (m.ranks k) refl (found m k)

-- nobody waits where only those below n could
nobody_waits : (m : Meaning) (n : ℕ) → ((s x : ℕ) → Waits m s x → s < n) → ((s : ℕ) → s < n → m.ranks s ≡ None) → (s : ℕ) (o : Option ℕ) → m.ranks s ≡ o → m.ranks s ≡ None
nobody_waits m n only none s None e = e
nobody_waits m n only none s (Some x) e = none s (only s x e)

pub lowest_found : (m : Meaning) (n : ℕ) → ((s x : ℕ) → Waits m s x → s < n) → Nobody m ⊎ ((t : ℕ) × Lowest m t)
lowest_found m n only =
    ⊎_elim
    (λ none. inl (λ s. nobody_waits m n only none s (m.ranks s) refl))
    (λ one. inr (one.0, record { rank = one.1.rank; waits = one.1.waits; least = λ s x w. one.1.least s x (only s x w) w }))
    (found m n)
