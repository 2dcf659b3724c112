-- Calls that are accepted.
use Rattle.std.specs.Prelude.{◌≡◌, ℕ, ◌<◌, ◌≤◌, true, false, List, length, None, Result, Ok, Err, OnOk}
use Rattle.std.proofs.Common.{arith}
use Rattle.std.proofs.lemmas.Bool.Decides.{nat_tests}
use Rattle.refusal.specs.First.{told}
use Rattle.refusal.specs.declared.Refusal.{Refusal}
use Rattle.ledger.specs.After.{after_work}
use Rattle.ledger.specs.Ledger.{Ledger}
use Rattle.ledger.specs.Refusals.{work_refusal}
use Rattle.tables.specs.Copied.{copy_refusal}

-- a row that is marked is copied into lists that have places for it
pub copy_accepted : {K : Type 0} (g : Ledger K) (a : ℕ) (xs ys : List ℕ) → a < g.stations → g.marked a ≡ true → g.stations ≤ length xs → g.stations ≤ length ys → copy_refusal g a xs ys ≡ None
copy_accepted g a xs ys there on xs_fit ys_fit = grind (arith, nat_tests, there, on, xs_fit, ys_fit)

-- what holds of a call that tells of no refusal
pub on_accepted : {T X : Type 0} (r : Result T Refusal) → told r ≡ None → OnOk r X → X
on_accepted (Ok x) none on = on
on_accepted (Err why) none on = absurd (cc none)

-- a row that is not marked is worked
pub work_accepted : {K : Type 0} (g : Ledger K) (a : ℕ) → a < g.stations → g.marked a ≡ false → work_refusal g a ≡ None
work_accepted g a there off = grind (arith, nat_tests, there, off)

-- and marked then
pub work_marks : {K : Type 0} (g : Ledger K) (a : ℕ) → (after_work g a).marked a ≡ true
work_marks g a = grind (arith, nat_tests)
