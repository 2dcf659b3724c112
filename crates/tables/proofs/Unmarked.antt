-- Marks that are all off.
use Rattle.std.specs.Prelude.{◌≡◌, ℕ, Bool, false, List, length, take, ◌<◌, ◌≤◌, replicate, slice_index_or}
use Rattle.std.proofs.Common.{◌∙◌, refl, arith, ap, ⊎_elim}
use Rattle.std.proofs.Math.Path.{fun_ext}
use Rattle.std.proofs.lemmas.List.{get_or-replicate, get_or_past, length-replicate}
use Rattle.std.proofs.lemmas.Bool.{cases_lt}
use Rattle.cost.specs.declared.link.Link.{Link}
use Rattle.ledger.specs.Ledger.{Ledger, unmarked}

pub all_alike : {X : Type 0} (n a : ℕ) (d : X) → slice_index_or (replicate n d) a d ≡ d
all_alike n a d =
    ⊎_elim
    (λ (within : a < n). get_or-replicate n a d d within)
    (λ (past : n ≤ a). get_or_past (replicate n d) a d (omega (arith, past, length-replicate n d)))
    (cases_lt a n)

pub unmarked_ledger : {K : Type 0} (n n' k k' : ℕ) (ls ls' : List (Link K)) (marks : List Bool) → n ≡ n' → k ≡ k' → ls ≡ ls' → ((a : ℕ) → slice_index_or marks a false ≡ false)
    → ◌≡◌ {A = Ledger K} (record { stations = n; places = length ls; links = take k ls; marked = λ a. slice_index_or marks a false }) (record { stations = n'; places = length ls'; links = take k' ls'; marked = unmarked })
unmarked_ledger n n' k k' ls ls' marks same_n same_k same_ls off =
    ap (λ f. record { stations = n; places = length ls; links = take k ls; marked = f }) (fun_ext off)
    ∙ rw (same_n, same_k, same_ls) refl
