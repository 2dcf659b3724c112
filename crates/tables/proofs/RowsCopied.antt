-- A row that is copied is marked, and so it is right.
use Rattle.std.specs.Prelude.{◌≡◌, ℕ, ◌<◌, true, List, Result, Ok, Err, OnOk}
use Rattle.std.proofs.Common.{arith, subst}
use Rattle.std.proofs.lemmas.Bool.Decides.{nat_tests}
use Rattle.cost.specs.Kind.{Kind}
use Rattle.refusal.specs.First.{told}
use Rattle.refusal.specs.declared.Refusal.{Refusal}
use Rattle.routes.specs.Row.{Right}
use Rattle.ledger.specs.Holds.{Holds}
use Rattle.ledger.specs.Ledger.{network}
use Rattle.ledger.specs.Logged.{Reckoned}
use Rattle.ledger.specs.View.{View}
use Rattle.tables.specs.Copied.{copy_refusal, CopyEffect}
use Rattle.tables.specs.Copies.{CopyAnswer}

module _ {K T : Type 0} (m : Kind K) (v : View K) (a : ℕ) (xs ys : List ℕ) where
  right_row : Holds m v → (r : Result T Refusal) → told r ≡ copy_refusal v.ledger a xs ys → OnOk r (Right m (network v.ledger) a (v.rows a))
  right_row holds (Ok x) none =
      let there : a < v.ledger.stations = grind (arith, nat_tests) in
      let on : v.ledger.marked a ≡ true = grind (arith, nat_tests) in
      holds.marked a there on
  right_row holds (Err why) some = tt

pub copy_reckoned : {K T : Type 0} {m : Kind K} {v : View K} {a : ℕ} {xs xs' ys ys' : List ℕ} {r : Result T Refusal} → CopyEffect m v a xs xs' ys ys' r → Reckoned m v (λ g. CopyAnswer m g (v.rows a) a xs ys r)
copy_reckoned {m = m} {v} {a} {xs} {xs'} {ys} {ys'} {r} effect = record {
  by_ledger = λ start log stands. subst (λ g. CopyAnswer m g (v.rows a) a xs ys r) stands.reckoned (record { refusal = effect.refusal; right = right_row m v a xs ys stands.holds r effect.refusal });
}
