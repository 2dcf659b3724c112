-- Every run ends in a right row: nobody waits any more, so no walk is cheaper than a label.
use Rattle.std.proofs.Common.{◌≡◌, [], ℕ, suc, ◌⊎◌, inl, inr, ⊎_elim, List, Some, None, is_some, refl, ap, subst, sym, ◌∙◌, arith, ◌≢◌}
use Rattle.std.proofs.lemmas.Bool.{cases_eq, true≢false}
use Rattle.std.proofs.lemmas.Bool.Decides.{nat_tests}
use Rattle.cost.specs.Kind.{Kind, FAR, Same, AtMost, Below}
use Rattle.cost.specs.Laws.{Laws, Strict, ZeroLeast}
use Rattle.queue.specs.Meaning.{Nobody}
use Rattle.routes.specs.Walk.{Walk, LastBefore}
use Rattle.routes.specs.Row.{Right}
use Rattle.routes.specs.Task.{Task, Workable, RowsRight}
use Rattle.routes.specs.State.{State, begun}
use Rattle.routes.specs.Methods.{offers}
use Rattle.routes.specs.Runs.{taking, Reached, start, next, Run}
use Rattle.routes.specs.declared.method.Method.TheVariants.{Plain, Prune}
use Rattle.routes.proofs.Costs.{at_most_far}
use Rattle.routes.proofs.Follows.{follows_all}
use Rattle.routes.proofs.Standing.{in_push}
use Rattle.routes.proofs.Takings.{reached_standing}
use Rattle.routes.proofs.Labels.{Labels, walked, cheaper_walks_known}
use Rattle.routes.proofs.Steps.{labels_followed}
use Rattle.routes.proofs.FairOffers.{fair_offers}

module _ {K : Type 0} {m : Kind K} (laws : Laws m) (zero_least : ZeroLeast m) (task : Task K) where
  -- at the start
  begun_far : (v : ℕ) → (v ≢ task.source) → m.rank ((begun m task).row.costs v) ≡ FAR
  begun_far v ne = let f = laws.far_rank in grind (arith, nat_tests)

  begun_labels : Labels m task [] (begun m task)
  begun_labels = record {
    source = grind (arith, nat_tests);
    source_none = refl;
    far_none = λ v far. refl;
    given = λ v ne below. let e = begun_far v ne in let f = laws.far_rank in absurd (omega arith);
    firsts = λ prune v ne below. let e = begun_far v ne in let f = laws.far_rank in absurd (omega arith);
    closed = λ l laid rests below. let f = laws.far_rank in let e = begun_far l.from in absurd (grind (arith, nat_tests));
  }

  module _ (workable : Workable task) (strict : task.method ≡ Prune → Strict m) where
    -- and in every state that a method comes to
    pub labels_reached : {xs : List ℕ} {s : State K} → Reached m task xs s → ((task.method ≢ Plain) → RowsRight m task xs) → Labels m task xs s
    labels_reached start rows_right = begun_labels
    labels_reached (next {xs = xs} {s = s} {t = t} reached lowest) rows_right =
        let labels = labels_reached reached (λ other. record { right = λ u row on_it is. (rows_right other).right u row (in_push u xs t on_it) is }) in
        labels_followed m task laws zero_least labels
        (fair_offers laws zero_least workable labels (reached_standing laws zero_least workable reached).1 lowest rows_right strict)
        (follows_all m (offers m task s t) (taking s t))

    -- where nobody waits
    module _ {xs : List ℕ} {s : State K} (labels : Labels m task xs s) (over : Nobody s.queue) where
      least_label : (v : ℕ) (c : K) → Walk m task.network task.source v c → AtMost m (s.row.costs v) c
      least_label v c walk = cheaper_walks_known m task laws zero_least labels (suc (m.rank c)) (λ u w. absurd (true≢false (sym w ∙ ap is_some (over u)))) v c walk (omega arith)

      -- a predecessor is missing or given as a right row has it
      near_far : (v : ℕ) → (Same m (s.row.costs v) m.far → ⊥) → Below m (s.row.costs v) m.far
      near_far v near = let most = at_most_far laws (s.row.costs v) in omega arith

      missing_only : (v : ℕ) → s.row.predecessors v ≡ None → (v ≡ task.source) ⊎ Same m (s.row.costs v) m.far
      missing_only v none =
          ⊎_elim inl
          (λ (ne : v ≢ task.source).
          ⊎_elim inr
          (λ (near : Same m (s.row.costs v) m.far → ⊥). let g = (labels.given v ne (near_far v near)).is in absurd (cc (none, g)))
          (cases_eq (m.rank (s.row.costs v)) (m.rank m.far)))
          (cases_eq v task.source)

      given_last : (v p : ℕ) → s.row.predecessors v ≡ Some p → LastBefore m task.network task.source p v (s.row.costs v)
      given_last v p is =
          ⊎_elim
          (λ (e : v ≡ task.source). absurd (cc (labels.source_none, ap s.row.predecessors e, is)))
          (λ (ne : v ≢ task.source).
          ⊎_elim
          (λ (far : Same m (s.row.costs v) m.far). absurd (cc (labels.far_none v far, is)))
          (λ (near : Same m (s.row.costs v) m.far → ⊥).
          let g = labels.given v ne (near_far v near) in
          let same : g.station ≡ p = cc (g.is, is) in
          subst (λ (q : ℕ). LastBefore m task.network task.source q v (s.row.costs v)) same g.last)
          (cases_eq (m.rank (s.row.costs v)) (m.rank m.far)))
          (cases_eq v task.source)

    -- the row is right
    pub right_at_end : {xs : List ℕ} {s : State K} → ((task.method ≢ Plain) → RowsRight m task xs) → Run m task xs s → Right m task.network task.source s.row
    right_at_end {xs} {s} rows_right run =
        let labels = labels_reached run.reached rows_right in
        record {
          least = λ v there. record { none_less = λ {d} walk. least_label labels run.over v d walk; one_costs_it = λ near. walked m task laws zero_least labels v (near_far labels run.over v near) };
          missing = λ v there. (missing_only labels run.over v, ⊎_elim (λ e. ap s.row.predecessors e ∙ labels.source_none) (labels.far_none v));
          given = λ v p there. given_last labels run.over v p;
        }

  pub right_from_rows : Workable task → {xs : List ℕ} {s : State K} → RowsRight m task xs → (task.method ≡ Prune → Strict m) → Run m task xs s → Right m task.network task.source s.row
  right_from_rows workable rows_right strict run = right_at_end workable strict (λ other. rows_right) run
