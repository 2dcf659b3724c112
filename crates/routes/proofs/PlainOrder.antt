-- In a run of plain every station's predecessor was taken before it, so the predecessors lead to the source. No strict law is used.
use Rattle.std.proofs.Common.{◌≡◌, refl, ℕ, ◌+◌, ◌<◌, ◌≤◌, true, cond, ⊎_elim, List, [], ◌∷◌, ◌++◌, length, Some, None, ap, subst, sym, ◌∙◌, arith, ◌==◌}
use Rattle.std.specs.List.{position_or_len}
use Rattle.std.proofs.lemmas.Bool.{cases_lt}
use Rattle.std.proofs.lemmas.Bool.Decides.{nat_tests}
use Rattle.std.proofs.lemmas.List.{length_push}
use Rattle.std.proofs.lemmas.List.Folds.{position_or_len_push}
use Rattle.std.proofs.lemmas.List.Sums.{sum_by-cons}
use Rattle.cost.specs.Kind.{Kind, Below}
use Rattle.cost.specs.Laws.{Laws, ZeroLeast}
use Rattle.queue.specs.Drained.{times}
use Rattle.queue.specs.Meaning.{Lowest}
use Rattle.routes.specs.Row.{Right}
use Rattle.routes.specs.Chain.{Chain, Route}
use Rattle.routes.specs.Task.{Task, Workable}
use Rattle.routes.specs.State.{State}
use Rattle.routes.specs.Methods.{offers, plain, by_method}
use Rattle.routes.specs.Runs.{taking, followed, Reached, start, next, Run}
use Rattle.routes.specs.declared.method.Method.{Method}
use Rattle.routes.specs.declared.method.Method.TheVariants.{Plain}
use Rattle.routes.proofs.Follows.{Moved, follows_all}
use Rattle.routes.proofs.Takings.{taken_keeps}
use Rattle.routes.proofs.MadeOffers.{each_over}
use Rattle.routes.proofs.Ends.{right_at_end}
use Rattle.routes.proofs.RightChains.{right_reach}

-- when v was first taken; the length of xs where it was not
abbrev pub when : ℕ → List ℕ → ℕ
when v xs = position_or_len (λ x. x == v) xs

when_at_most : (v : ℕ) (xs : List ℕ) → when v xs ≤ length xs
when_at_most v [] = omega arith
when_at_most v (x ∷ xs) = let rest = when_at_most v xs in grind (arith, nat_tests)

when_taken : (v : ℕ) (xs : List ℕ) → when v xs < length xs → 1 ≤ times v xs
when_taken v [] l = absurd (omega arith)
when_taken v (x ∷ xs) l = let rest = when_taken v xs in rw sum_by-cons (grind (arith, nat_tests))

-- when one more is taken
when_push : (v t : ℕ) (xs : List ℕ) → when v (xs ++ t ∷ []) ≡ (cond (when v xs == length xs) (length xs + cond (t == v) 0 1) (when v xs))
when_push v t xs = position_or_len_push (λ x. x == v) xs t

module _ {K : Type 0} {m : Kind K} (laws : Laws m) (zero_least : ZeroLeast m) {task : Task K} (workable : Workable task) (is_plain : task.method ≡ Plain) where
  module _ {xs : List ℕ} {s : State K} {t : ℕ} (reached : Reached m task xs s) (lowest : Lowest s.queue t) where
    abbrev then : State K
    then = followed m task s t

    -- what has been taken keeps its label
    keeps : (u : ℕ) → when u (xs ++ t ∷ []) < length (xs ++ t ∷ []) → then.row.costs u ≡ s.row.costs u
    keeps u l = (taken_keeps laws zero_least workable reached lowest u (when_taken u (xs ++ t ∷ []) l)).cost

    earlier_kept : (v p : ℕ) → when p xs < when v xs → when p (xs ++ t ∷ []) < when v (xs ++ t ∷ [])
    earlier_kept v p earlier =
        let p_before = when_push p t xs in
        let v_before = when_push v t xs in
        let most = when_at_most v xs in
        grind (arith, nat_tests)

    moved_later : (v : ℕ) → Moved m (taking s t) (plain m task s t) v then → when v (xs ++ t ∷ []) ≡ length (xs ++ t ∷ [])
    moved_later v d =
        let most = when_at_most v (xs ++ t ∷ []) in
        ⊎_elim
        (λ (l : when v (xs ++ t ∷ []) < length (xs ++ t ∷ [])).
        let same = ap m.rank (keeps v l) in
        let cost = ap m.rank d.cost in
        let lower = d.lower in
        absurd (omega arith))
        (λ (ge : length (xs ++ t ∷ []) ≤ when v (xs ++ t ∷ [])). omega arith)
        (cases_lt (when v (xs ++ t ∷ [])) (length (xs ++ t ∷ [])))

    earlier_moved : (v p : ℕ) → then.row.predecessors v ≡ Some p → Moved m (taking s t) (plain m task s t) v then → when p (xs ++ t ∷ []) < when v (xs ++ t ∷ [])
    earlier_moved v p is d =
        let from_t = each_over m s t task.network (λ u. None) (λ k. true) (λ o. o.predecessor ≡ Some t) (λ l laid from. refl) d.offer d.made in
        let same : p ≡ t = cc (is, d.predecessor, from_t) in
        let p_before = when_push p t xs in
        let most = when_at_most p xs in
        let longer = length_push xs t in
        let later = moved_later v d in
        grind (arith, nat_tests)

  -- so in every state that plain comes to
  earlier : {xs : List ℕ} {s : State K} → Reached m task xs s → (v p : ℕ) → s.row.predecessors v ≡ Some p → when p xs < when v xs
  earlier start v p is = absurd (cc is)
  earlier (next {xs = xs} {s = s} {t = t} reached lowest) v p is =
      ⊎_elim
      (λ k. earlier_kept reached lowest v p (earlier reached v p (sym k.predecessor ∙ is)))
      (λ d. earlier_moved reached lowest v p is (subst (λ (method : Method). Moved m (taking s t) (by_method m task s t method) v (followed m task s t)) is_plain d))
      ((follows_all m (offers m task s t) (taking s t)).fate v)

  -- plain's row is right, and its predecessors lead to each station below FAR
  pub plain_right : {xs : List ℕ} {s : State K} → Run m task xs s → Right m task.network task.source s.row
  plain_right = right_at_end laws zero_least task workable (λ pruned. absurd (cc (is_plain, pruned))) (λ other. absurd (other is_plain))

  pub plain_reach : {xs : List ℕ} {s : State K} → Run m task xs s → {B : ℕ} → B < task.network.stations → Below m (s.row.costs B) m.far
      → (ys : List ℕ) × Chain s.row task.source B ys × Route m task.network task.source s.row B ys
  plain_reach {xs} {s} run =
      right_reach laws zero_least workable.between workable.source_there (plain_right run) (λ v. when v xs) (λ v p there. earlier run.reached v p)

-- what the contract wants
pub ruleset by_plain = (plain_right, plain_reach)
