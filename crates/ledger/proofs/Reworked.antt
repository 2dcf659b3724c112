-- Working a row.
use Rattle.std.proofs.Common.{◌≡◌, ◌≢◌, ℕ, ◌<◌, List, [], ◌∷◌, ◌++◌, ⊎_elim, true, false, Some, None, if◌then◌else◌, Bool, Result, Ok, Err, refl, subst, sym, ◌∙◌, arith}
use Rattle.std.proofs.lemmas.Bool.{cases_eq}
use Rattle.std.proofs.lemmas.Bool.Decides.{nat_tests}
use Rattle.cost.specs.Kind.{Kind}
use Rattle.cost.specs.Laws.{Laws, Strict}
use Rattle.queue.specs.Meaning.{Meaning}
use Rattle.refusal.specs.Code.{code_of}
use Rattle.refusal.specs.declared.Refusal.{Refusal}
use Rattle.routes.proofs.Costs.{zero_least_from_strict}
use Rattle.routes.proofs.Ends.{right_from_rows}
use Rattle.routes.proofs.Takings.{reached_standing, at_most_below_far, all_below_far, all_taken, run_takes}
use Rattle.routes.specs.Row.{Row, Right}
use Rattle.routes.specs.Runs.{Run}
use Rattle.routes.specs.State.{State}
use Rattle.routes.specs.Task.{Workable, RowsRight}
use Rattle.routes.specs.declared.method.Method.{Method}
use Rattle.ledger.specs.Ledger.{Ledger, network}
use Rattle.ledger.specs.Refusals.{work_refusal}
use Rattle.ledger.specs.After.{after_work}
use Rattle.ledger.specs.View.{View, task_of}
use Rattle.ledger.specs.Log.{Entry, work, reckon}
use Rattle.ledger.specs.Holds.{Holds}
use Rattle.ledger.specs.Stands.{Stands}
use Rattle.ledger.specs.Worked.{EndsIn, Worked}
use Rattle.ledger.specs.Answers.{WorkAnswer}
use Rattle.ledger.specs.Effects.{WorkEffect}
use Rattle.ledger.proofs.Entered.{unless_none, unless_some}
use Rattle.ledger.proofs.Stood.{stands_next, stands_still}

-- a row that a task has is marked
row_marked : {R : Type 0} (on : Bool) (row row' : R) → (if on then Some row else None) ≡ Some row' → (on ≡ true) × (row ≡ row')
row_marked true row row' e = (refl, cc e)
row_marked false row row' e = absurd (cc e)

module _ {K : Type 0} {m : Kind K} {v : View K} (holds : Holds m v) where
  -- a run from rows of which the marked are right
  module _ (laws : Laws m) (strict : Strict m) {a : ℕ} {method : Method} (accepted : work_refusal v.ledger a ≡ None) where
    workable : Workable (task_of v a method)
    workable = record { source_there = grind (arith, nat_tests); between = holds.fair.between }

    rows_right : {xs : List ℕ} {s : State K} → Run m (task_of v a method) xs s → RowsRight m (task_of v a method) xs
    rows_right run = record {
      right = λ t row on_it is.
          let there = ((reached_standing laws (zero_least_from_strict laws strict) workable run.reached).1.taken t on_it).1 in
          let marked = row_marked (v.ledger.marked t) (v.rows t) row is in
          subst (λ (z : Row K). Right m (network v.ledger) t z) marked.1 (holds.marked t there marked.0);
    }

    run_worked : {xs : List ℕ} {s : State K} → Run m (task_of v a method) xs s → Worked m v a method s.row s.queue
    run_worked {xs} {s} run =
        let zero_least = zero_least_from_strict laws strict in
        let taken = all_taken laws zero_least workable holds.not_too_many run.reached in
        record {
          ends = record { stations = xs; state = s; run = run; row_then = refl; queue_then = refl };
          nobody = run.over;
          right = right_from_rows laws zero_least (task_of v a method) workable (rows_right run) (λ prune. strict) run;
          some_taken = run_takes laws zero_least workable holds.not_too_many run;
          at_most = omega (arith, taken, at_most_below_far laws zero_least workable run.reached);
          all = λ other. taken ∙ all_below_far laws zero_least workable other run;
        }

    pub worked : {row : Row K} {queue : Meaning} → EndsIn m (task_of v a method) row queue → Worked m v a method row queue
    worked ends =
        subst (λ (q : Meaning). Worked m v a method _ q) ends.queue_then
        (subst (λ (z : Row K). Worked m v a method z ends.state.queue) ends.row_then (run_worked ends.run))

  -- the row is marked, and right; the others stay
  work_holds : {w : View K} {a : ℕ} → w.ledger ≡ after_work v.ledger a → Right m (network v.ledger) a (w.rows a)
      → ((b : ℕ) → b < v.ledger.stations → b ≢ a → w.rows b ≡ v.rows b) → Holds m w
  work_holds {w} {a} is right others =
      subst (λ (g : Ledger K). Holds m (record { ledger = g; rows = w.rows })) (sym is)
      (record {
        not_too_many = holds.not_too_many;
        fair = holds.fair;
        marked = λ b there on. ⊎_elim
            (λ e. subst (λ (z : ℕ). Right m (network v.ledger) z (w.rows z)) (sym e) right)
            (λ other. rw (others b there other) (holds.marked b there (grind (arith, nat_tests))))
            (cases_eq b a);
        unmarked = λ b there off. ⊎_elim
            (λ e. absurd (grind (arith, nat_tests)))
            (λ other. others b there other ∙ holds.unmarked b there (grind (arith, nat_tests)))
            (cases_eq b a);
      })

module _ {K T : Type 0} {m : Kind K} (laws : Laws m) (strict : Strict m) {start : Ledger K} {log : List (Entry K)}
    {before after : View K} {a : ℕ} {method : Method} {queue : Meaning} (stands : Stands m start log before) where
  stands_by : (r : Result T Refusal) → WorkEffect m before after a method r queue → Stands m start (log ++ work a method ∷ []) after
  stands_by (Ok x) effect =
      let g = before.ledger in
      let accepted : work_refusal g a ≡ None = sym effect.refusal in
      stands_next stands (work a method)
      (effect.ledger ∙ sym (unless_none (work_refusal g a) g (after_work g a) accepted))
      (work_holds stands.holds effect.ledger (worked stands.holds laws strict accepted effect.ends).right effect.others)
  stands_by (Err why) effect =
      let g = before.ledger in
      stands_still stands (work a method) (unless_some (work_refusal g a) g (after_work g a) (code_of why) (sym effect.refusal)) effect.kept

  answers_by : (r : Result T Refusal) → WorkEffect m before after a method r queue
      → WorkAnswer m before.ledger before.rows a method r (after.rows a) queue
  answers_by (Ok x) effect =
      record { refusal = effect.refusal; worked = worked stands.holds laws strict (sym effect.refusal) effect.ends }
  answers_by (Err why) effect = record { refusal = effect.refusal; worked = tt }

  pub work_stands : {r : Result T Refusal} → WorkEffect m before after a method r queue → Stands m start (log ++ work a method ∷ []) after
  work_stands {r} = stands_by r

  pub work_answers : {r : Result T Refusal} → WorkEffect m before after a method r queue
      → WorkAnswer m (reckon m start log) before.rows a method r (after.rows a) queue
  work_answers {r} effect =
      subst (λ (g : Ledger K). WorkAnswer m g before.rows a method r (after.rows a) queue) stands.reckoned (answers_by r effect)

-- what the contract wants
pub ruleset reworked = (work_stands, work_answers)
