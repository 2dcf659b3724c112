-- A row is marked exactly when it was worked, and no link was laid or lifted since.
use Rattle.std.proofs.Common.{◌≡◌, ℕ, List, [], ◌∷◌, ◌++◌, ◌⊎◌, inl, inr, ⊎_elim, Bool, true, false, Option, Some, None, refl, subst, sym, ap, ◌∙◌, arith}
use Rattle.std.proofs.lemmas.Bool.{cases_eq, true≢false}
use Rattle.std.proofs.lemmas.Bool.Decides.{nat_tests}
use Rattle.cost.specs.Kind.{Kind}
use Rattle.refusal.specs.declared.Code.{Code}
use Rattle.routes.specs.declared.method.Method.{Method}
use Rattle.ledger.specs.Ledger.{Ledger}
use Rattle.ledger.specs.Refusals.{lay_refusal, lift_refusal, work_refusal}
use Rattle.ledger.specs.After.{after_lay, after_lift, after_work}
use Rattle.ledger.specs.Log.{Entry, lay, lift, work, cost, route, check, unless, entered, reckon}
use Rattle.ledger.specs.Starts.{Starts}
use Rattle.ledger.specs.Marks.{Clears, WorkedSince}
use Rattle.ledger.proofs.Entered.{unless_none, reckon_on}

module _ {K : Type 0} (m : Kind K) (a : ℕ) where
  -- what becomes of row a's mark at an entry: all marks are cleared; it stays; or the row is worked
  data Fate (g : Ledger K) (e : Entry K) : Type 0 where
    clears : Clears m g e → (entered m g e).marked a ≡ false → Fate g e
    stays : (Clears m g e → ⊥) → (entered m g e).marked a ≡ g.marked a → Fate g e
    works : (method : Method) → e ≡ work a method → work_refusal g a ≡ None → (entered m g e).marked a ≡ true → Fate g e

  relinked : (refusal : Option Code) (g h : Ledger K) → h.marked a ≡ false
      → (refusal ≡ None) × ((unless refusal g h).marked a ≡ false)
      ⊎ (refusal ≡ None → ⊥) × ((unless refusal g h).marked a ≡ g.marked a)
  relinked None g h off = inl (refl, off)
  relinked (Some code) g h off = inr (λ e. absurd (cc e), refl)

  reworked : (refusal : Option Code) (g : Ledger K) (b : ℕ)
      → (b ≡ a) × (refusal ≡ None) × ((unless refusal g (after_work g b)).marked a ≡ true)
      ⊎ ((unless refusal g (after_work g b)).marked a ≡ g.marked a)
  reworked None g b =
      ⊎_elim
      (λ same. inl (same, refl, grind (arith, nat_tests)))
      (λ other. inr (grind (arith, nat_tests)))
      (cases_eq b a)
  reworked (Some code) g b = inr refl

  fate : (g : Ledger K) (e : Entry K) → Fate g e
  fate g (lay b c d) = ⊎_elim (λ h. clears h.0 h.1) (λ h. stays h.0 h.1) (relinked (lay_refusal m g b c d) g (after_lay g b c d) refl)
  fate g (lift b c) = ⊎_elim (λ h. clears h.0 h.1) (λ h. stays h.0 h.1) (relinked (lift_refusal g b c) g (after_lift g b c) refl)
  fate g (work b method) =
      ⊎_elim
      (λ h. works method (ap (λ (z : ℕ). work z method) h.0) (rw (← h.0) h.1) h.2)
      (λ same. stays (λ none. none) same)
      (reworked (work_refusal g b) g b)
  fate g (cost b c) = stays (λ none. none) refl
  fate g (route b c places) = stays (λ none. none) refl
  fate g (check b costs predecessors) = stays (λ none. none) refl

  -- no entry of a log clears marks
  abbrev NoneClears : Ledger K → List (Entry K) → Type 0
  NoneClears g log = (early late : List (Entry K)) (e : Entry K) → log ≡ early ++ e ∷ late → Clears m (reckon m g early) e → ⊥

  none_in_empty : (g : Ledger K) → NoneClears g []
  none_in_empty g [] late e split = absurd (cc split)
  none_in_empty g (x ∷ early) late e split = absurd (cc split)

  none_in_longer : (g : Ledger K) (e : Entry K) (log : List (Entry K)) → (Clears m g e → ⊥) → NoneClears (entered m g e) log
      → NoneClears g (e ∷ log)
  none_in_longer g e log here later [] late e' split = let same : e ≡ e' = cc split in subst (λ z. Clears m g z → ⊥) same here
  none_in_longer g e log here later (x ∷ early) late e' split =
      let same : e ≡ x = cc split in
      let rest : log ≡ early ++ e' ∷ late = cc split in
      subst (λ z. Clears m (reckon m (entered m g z) early) e' → ⊥) same (later early late e' rest)

  -- a mark that stands in the end stood at first and was never cleared, or was made since
  since : (log : List (Entry K)) (g : Ledger K) → (reckon m g log).marked a ≡ true
      → (g.marked a ≡ true) × NoneClears g log ⊎ WorkedSince m g log a
  since [] g on = inl (on, none_in_empty g)
  since (e ∷ log) g on =
      ⊎_elim
      (λ h. by_fate (fate g e) h.0 h.1)
      (λ w. inr (record {
        before = e ∷ w.before;
        method = w.method;
        after = w.after;
        parts = ap (λ (z : List (Entry K)). e ∷ z) w.parts;
        accepted = w.accepted;
        none_clears = w.none_clears;
      }))
      (since log (entered m g e) on)
    where
      by_fate : Fate g e → (entered m g e).marked a ≡ true → NoneClears (entered m g e) log
          → (g.marked a ≡ true) × NoneClears g (e ∷ log) ⊎ WorkedSince m g (e ∷ log) a
      by_fate (clears c off) on none = absurd (true≢false (sym on ∙ off))
      by_fate (stays not_here same) on none = inl (sym same ∙ on, none_in_longer g e log not_here none)
      by_fate (works method is accepted made) on none = inr (record {
        before = [];
        method = method;
        after = log;
        parts = ap (λ (z : Entry K). z ∷ log) is;
        accepted = accepted;
        none_clears = λ early late e' split.
            subst (λ (z : Entry K). Clears m (reckon m (entered m g z) early) e' → ⊥) is (none early late e' split);
      })

  -- a mark stays where none is cleared
  kept : (log : List (Entry K)) (g : Ledger K) → g.marked a ≡ true → NoneClears g log → (reckon m g log).marked a ≡ true
  kept [] g on none = on
  kept (e ∷ log) g on none =
      kept log (entered m g e) (by_fate (fate g e))
      (λ early late e' split. none (e ∷ early) late e' (ap (λ (z : List (Entry K)). e ∷ z) split))
    where
      by_fate : Fate g e → (entered m g e).marked a ≡ true
      by_fate (clears c off) = absurd (none [] log e refl c)
      by_fate (stays not_here same) = same ∙ on
      by_fate (works method is accepted made) = made

  pub worked_since : {start : Ledger K} {log : List (Entry K)} → Starts m start → (reckon m start log).marked a ≡ true → WorkedSince m start log a
  worked_since {start} {log} starts on =
      ⊎_elim
      (λ h. absurd (true≢false (sym h.0 ∙ ap (λ (f : ℕ → Bool). f a) starts.none_marked)))
      (λ w. w)
      (since log start on)

  pub since_worked : {start : Ledger K} {log : List (Entry K)} → WorkedSince m start log a → (reckon m start log).marked a ≡ true
  since_worked {start} {log} w =
      let h = reckon m start w.before in
      let made : entered m h (work a w.method) ≡ after_work h a = unless_none (work_refusal h a) h (after_work h a) w.accepted in
      let on : (entered m h (work a w.method)).marked a ≡ true = ap (λ (z : Ledger K). z.marked a) made ∙ grind (arith, nat_tests) in
      let none : NoneClears (entered m h (work a w.method)) w.after =
      λ early late e split.
      subst (λ (z : Ledger K). Clears m z e → ⊥) (reckon_on m start w.before (work a w.method ∷ early)) (w.none_clears early late e split) in
      ap (λ (z : List (Entry K)). (reckon m start z).marked a) w.parts
      ∙ ap (λ (z : Ledger K). z.marked a) (reckon_on m start w.before (work a w.method ∷ w.after))
      ∙ kept w.after (entered m h (work a w.method)) on none

-- what the contract wants
pub ruleset tells_of_work = (worked_since, since_worked)
