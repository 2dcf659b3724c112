-- What a station offers over the links that are tight in its first station's row, if that is right, is fair: over any other link some walk is cheaper.
use Rattle.std.proofs.Common.{◌≡◌, ◌≤◌, List, [], ◌∷◌, ◌++◌, ℕ, ◌<◌, false, ◌⊎◌, inl, inr, ⊎_elim, Option, Some, None, refl, ap, subst, sym, ◌∙◌, arith, ◌≢◌, ◌==◌, if◌then◌else◌}
use Rattle.std.specs.List.{Contains}
use Rattle.std.proofs.lemmas.Bool.{cases_eq, cases_Bool, eq-eqb, ne_eqb, true≢false}
use Rattle.std.proofs.lemmas.Bool.Decides.{nat_tests}
use Rattle.cost.specs.Kind.{Kind, FAR, Same, AtMost, Below}
use Rattle.cost.specs.Laws.{Laws, Strict}
use Rattle.cost.specs.declared.link.Link.{Link}
use Rattle.queue.specs.Drained.{times}
use Rattle.routes.specs.Network.{Between}
use Rattle.routes.specs.Walk.{Walk, stay, on, SomeWalk}
use Rattle.routes.specs.Row.{Row, Right}
use Rattle.routes.specs.Task.{Task, RowsRight}
use Rattle.routes.specs.State.{State}
use Rattle.routes.specs.Offers.{Offer}
use Rattle.routes.specs.Methods.{tight, prune, first_through, guiding, guided}
use Rattle.routes.specs.declared.method.Method.TheVariants.{Prune}
use Rattle.routes.proofs.Costs.{same_left, at_most_far, far_behind}
use Rattle.routes.proofs.JoinedWalks.{goes_on_to, along, costs_from_last, costs_same, walk_costs}
use Rattle.routes.proofs.MadeOffers.{each_over}
use Rattle.routes.proofs.Standing.{in_push, last_in_push}
use Rattle.routes.proofs.RightRows.{no_better}
use Rattle.routes.proofs.Labels.{Cheaper, Through, Labels}
use Rattle.routes.proofs.Steps.{Fair}
use Rattle.routes.proofs.FairLinks.{given_over, covers_over, all_put}

module _ {K : Type 0} {m : Kind K} (laws : Laws m) (strict : Strict m) (task : Task K) (between : Between task.network) {xs : List ℕ} {s : State K} (labels : Labels m task xs s) (t : ℕ)
    (t_there : t < task.network.stations) (t_below : Below m (s.row.costs t) m.far) (walk : SomeWalk m task.network task.source t (s.row.costs t))
    (final : (c : K) → Walk m task.network task.source t c → AtMost m (s.row.costs t) c)
  where
    -- a link from t that is not tight in the row of t's first station w
    module _ (by : Through m task xs (s.firsts t) t (s.row.costs t)) (row : Row K) (right : Right m task.network by.link.to row)
        (l : Link K) (laid : Contains task.network.links l) (from : l.from ≡ t) (loose : tight m row l ≡ false)
      where
        to_first : SomeWalk m task.network task.source by.link.to by.link.cost
        to_first = costs_same (costs_from_last (goes_on_to laws by.link (walk_costs stay) by.laid by.leaves refl)) (laws.zero_left by.link.cost)

        -- w's cost of t is below FAR
        row_near : Same m (row.costs t) m.far → ⊥
        row_near far =
            let le = (right.least t t_there).none_less by.walk in
            let most = at_most_far laws by.cost in
            let all_far = far_behind laws by.link.cost by.cost (omega arith) in
            let same = by.costs_that in
            omega arith

        -- t's label is final, so it is the link to w joined with w's cost of t
        same_label : Same m (s.row.costs t) (m.joined by.link.cost (row.costs t))
        same_label =
            let to_t = along laws to_first ((right.least t t_there).one_costs_it row_near) in
            let least = final to_t.cost to_t.walk in
            let costs = to_t.same in
            let le = laws.join_keeps_left (row.costs t) by.cost by.link.cost ((right.least t t_there).none_less by.walk) in
            let same = by.costs_that in
            omega arith

        -- and what t offers over the link is that of w with the link to w in front
        same_offer : Same m (m.joined (s.row.costs t) l.cost) (m.joined by.link.cost (m.joined (row.costs t) l.cost))
        same_offer = same_left laws (s.row.costs t) (m.joined by.link.cost (row.costs t)) l.cost same_label ∙ laws.join_associative by.link.cost (row.costs t) l.cost

        -- w's cost of where the link ends is less, if it is not FAR
        better : AtMost m (row.costs l.to) (m.joined (row.costs t) l.cost)
        better = rw from at (no_better laws between right l laid)

        strictly_better : (m.rank (row.costs l.to) ≡ FAR → ⊥) → Below m (row.costs l.to) (m.joined (row.costs t) l.cost)
        strictly_better near =
            let le = better in
            let test = rw from at loose in
            grind (arith, nat_tests)

        -- so the walk over w is cheaper than the offer, if that is not FAR
        skipped : Same m (m.joined (s.row.costs t) l.cost) m.far ⊎ Cheaper m task l.to (m.joined (s.row.costs t) l.cost)
        skipped =
            let same = same_offer in
            let le = better in
            let far_rank = laws.far_rank in
            let most = at_most_far laws (m.joined (row.costs t) l.cost) in
            ⊎_elim
            (λ (far : m.rank (row.costs l.to) ≡ FAR). inl (let f = far_behind laws by.link.cost (m.joined (row.costs t) l.cost) (omega arith) in omega arith))
            (λ (near : m.rank (row.costs l.to) ≡ FAR → ⊥).
            ⊎_elim
            (λ (far : Same m (m.joined by.link.cost (row.costs l.to)) m.far).
            inl (let more = laws.join_keeps_left (row.costs l.to) (m.joined (row.costs t) l.cost) by.link.cost le in
            let cap = at_most_far laws (m.joined by.link.cost (m.joined (row.costs t) l.cost)) in omega arith))
            (λ (not_far : Same m (m.joined by.link.cost (row.costs l.to)) m.far → ⊥).
            let cheaper = along laws to_first ((right.least l.to (between l laid).1).one_costs_it (λ f. near (f ∙ far_rank))) in
            inr (record {
              cost = cheaper.cost;
              walk = cheaper.walk;
              below = let lower = strict.join_keeps_below (row.costs l.to) (m.joined (row.costs t) l.cost) by.link.cost (strictly_better near) not_far in let e = cheaper.same in omega arith;
            }))
            (cases_eq (m.rank (m.joined by.link.cost (row.costs l.to))) (m.rank m.far)))
            (cases_eq (m.rank (row.costs l.to)) FAR)

    -- so with those that are tight
    module _ (rows_right : RowsRight m task (xs ++ t ∷ [])) (pruned : task.method ≡ Prune) where
      abbrev guide : Option (Row K)
      guide = if t == task.source then None else guiding task.rows (s.firsts t)

      -- the first station on the way to t leads on
      through_source : (t ≡ task.source) → (l : Link K) → Contains task.network.links l → l.from ≡ t → Through m task (xs ++ t ∷ []) (first_through m task s t l.to) l.to (m.joined (s.row.costs t) l.cost)
      through_source e l laid from = record {
        link = l;
        is = rw (eq-eqb t task.source e) refl;
        laid = laid;
        leaves = from ∙ e;
        cost = m.zero;
        walk = stay;
        costs_that =
            let at = ap (λ (c : K). m.rank (m.joined c l.cost)) (ap s.row.costs e ∙ labels.source) in
            let left = laws.zero_left l.cost in
            let right = laws.zero_right l.cost in
            omega arith;
        known = inl refl;
      }

      -- a first station that was t or taken before has been taken by now
      known_now : {u : ℕ} → (u ≡ t) ⊎ (1 ≤ times u xs) → 1 ≤ times u (xs ++ t ∷ [])
      known_now {u} known = ⊎_elim (λ e. subst (λ (w : ℕ). 1 ≤ times w (xs ++ t ∷ [])) (sym e) (last_in_push xs t)) (in_push u xs t) known

      through_other : (t ≢ task.source) → (l : Link K) → Contains task.network.links l → l.from ≡ t → Through m task (xs ++ t ∷ []) (first_through m task s t l.to) l.to (m.joined (s.row.costs t) l.cost)
      through_other ne l laid from =
          let by = labels.firsts pruned t ne t_below in
          record {
            link = by.link;
            is = rw (ne_eqb t task.source ne) by.is;
            laid = by.laid;
            leaves = by.leaves;
            cost = m.joined by.cost l.cost;
            walk = on (subst (λ (u : ℕ). Walk m task.network by.link.to u by.cost) (sym from) by.walk) laid;
            costs_that = sym (laws.join_associative by.link.cost by.cost l.cost) ∙ same_left laws (m.joined by.link.cost by.cost) (s.row.costs t) l.cost by.costs_that;
            known = inr (known_now by.known);
          }

      firsts_over : (o : Offer K) → Contains (prune m task s t) o → Through m task (xs ++ t ∷ []) o.first o.station o.cost
      firsts_over =
          each_over m s t task.network (first_through m task s t) (guided m guide) (λ o. Through m task (xs ++ t ∷ []) o.first o.station o.cost)
          (λ l laid from. ⊎_elim (λ e. through_source e l laid from) (λ ne. through_other ne l laid from) (cases_eq t task.source))

      -- and what is not tight in its row is not missed
      skips : (l : Link K) → Contains task.network.links l → l.from ≡ t → (r : Option (Row K)) → guide ≡ r → guided m r l ≡ false
          → Same m (m.joined (s.row.costs t) l.cost) m.far ⊎ Cheaper m task l.to (m.joined (s.row.costs t) l.cost)
      skips l laid from None is loose = absurd (true≢false loose)
      skips l laid from (Some row) is loose =
          ⊎_elim
          (λ (e : t ≡ task.source). let none : None ≡ Some row = rw (eq-eqb t task.source e) at is in absurd (cc none))
          (λ (ne : t ≢ task.source).
          let by = labels.firsts pruned t ne t_below in
          let found : guiding task.rows (s.firsts t) ≡ Some row = rw (ne_eqb t task.source ne) at is in
          let worked : task.rows by.link.to ≡ Some row = rw by.is at found in
          skipped by row (rows_right.right by.link.to row (known_now by.known) worked) l laid from loose)
          (cases_eq t task.source)

      pub fair_prune : Fair m task xs s t (prune m task s t)
      fair_prune = record {
        given = λ o has below. given_over laws task xs s t walk (first_through m task s t) (guided m guide) o has;
        firsts = λ p o has below. firsts_over o has;
        covers = λ l laid from. ⊎_elim
            (λ picked. inl (covers_over laws task xs s t walk (first_through m task s t) (guided m guide) l laid from picked))
            (λ loose. inr (skips l laid from guide refl loose))
            (cases_Bool (guided m guide l));
        goes_on = λ o has put. absurd (true≢false (sym (all_put laws task xs s t walk (first_through m task s t) (guided m guide) o has) ∙ put));
      }
