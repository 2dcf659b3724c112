-- Rows that are all worked: the list of links stays, and rows that are worked already change nothing.
use Rattle.std.proofs.Common.{◌≡◌, ℕ, ◌<◌, Bool, true, false, Result, Ok, Err, None, OnOk, OnErr, refl, ap, sym, subst, ◌∙◌, arith}
use Rattle.cost.specs.Kind.{Kind}
use Rattle.queue.specs.Meaning.{Meaning}
use Rattle.refusal.specs.Code.{bare}
use Rattle.refusal.specs.First.{told, refused_if}
use Rattle.refusal.specs.declared.Refusal.{Refusal}
use Rattle.routes.specs.declared.method.Method.{Method}
use Rattle.ledger.specs.Refusals.{no_station}
use Rattle.tables.specs.Working.{RowFilled}
use Rattle.tables.specs.declared.state.Tables.{Tables}
use Rattle.plan.specs.View.{view}
use Rattle.tables.specs.declared.state.Tables.{Tables as Plan}
use Rattle.listing.specs.AllRows.{AllWorked, none, one_more}

-- what holds of a refused call, where it has to be refused
on_refused : {X : Type 0} (r : Result Unit Refusal) (b : Bool) → told r ≡ refused_if b (bare 3) (refused_if true (bare 9) None) → OnErr r X → X
on_refused (Err e) b refusal on = on
on_refused (Ok x) true refusal on = absurd (cc refusal)
on_refused (Ok x) false refusal on = absurd (cc refusal)

list_of_one : {K : Type 0} (p p' : Plan K) (r : Result Unit Refusal) → OnOk r (p'.list.now ≡ p.list.now) → OnErr r (p' ≡ p)
    → p'.list.now ≡ p.list.now
list_of_one p p' (Ok x) left same = left
list_of_one p p' (Err e) left same = ap (λ (z : Plan _). z.list.now) same

list_left : {K : Type 0} (a : ℕ) (t t' : Tables K) (r : Result Unit Refusal) → OnOk r (RowFilled a t t') → OnOk r (t'.list.now ≡ t.list.now)
list_left a t t' (Ok x) left = left.list
list_left a t t' (Err e) left = tt

module _ {K : Type 0} {m : Kind K} {method : Method} (p : Plan K) (q : Meaning) where
  pub list_stays : {n : ℕ} {p' : Plan K} {q' : Meaning} → AllWorked m method p q n p' q' → p'.list.now ≡ p.list.now
  list_stays none = refl
  list_stays (one_more {p' = p'} {p'' = p''} before row) = list_of_one p' p'' row.answer (list_left _ p' p'' row.answer row.left) row.same ∙ list_stays before

  pub nothing_changes : {n : ℕ} {p' : Plan K} {q' : Meaning} → AllWorked m method p q n p' q' → ((a : ℕ) → a < n → (view m p).ledger.marked a ≡ true)
      → (p' ≡ p) × (q' ≡ q)
  nothing_changes none marked = (refl, refl)
  nothing_changes (one_more {a = a} {p' = p'} before row) marked =
      let so_far = nothing_changes before (λ b below. marked b (omega arith)) in
      let on : (view m p').ledger.marked a ≡ true = subst (λ (z : Plan K). (view m z).ledger.marked a ≡ true) (sym so_far.0) (marked a (omega arith)) in
      let refusal = row.effect.refusal ∙ ap (λ b. refused_if (no_station (view m p').ledger a) (bare 3) (refused_if b (bare 9) None)) on in (
        on_refused row.answer (no_station (view m p').ledger a) refusal row.same ∙ so_far.0,
        on_refused row.answer (no_station (view m p').ledger a) refusal row.queue ∙ so_far.1,
      )
