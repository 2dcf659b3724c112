-- What holds of the labels still holds after a station was taken, and what it offers, if that is fair, was followed.
use Rattle.std.proofs.Common.{◌≡◌, [], ◌∷◌, ◌++◌, Option, ℕ, false, ◌⊎◌, inl, inr, ⊎_elim, List, refl, ap, subst, sym, ◌∙◌, arith, ◌≢◌}
use Rattle.std.specs.List.{Contains}
use Rattle.std.proofs.lemmas.Bool.{cases_eq, true≢false}
use Rattle.std.proofs.lemmas.Bool.Decides.{nat_tests}
use Rattle.cost.specs.Kind.{Kind, Same, AtMost, Below}
use Rattle.cost.specs.Laws.{Laws, ZeroLeast}
use Rattle.cost.specs.declared.link.Link.{Link}
use Rattle.routes.specs.Task.{Task}
use Rattle.routes.specs.State.{State}
use Rattle.routes.specs.Offers.{Offer}
use Rattle.routes.specs.Runs.{taking}
use Rattle.routes.specs.declared.method.Method.TheVariants.{Prune}
use Rattle.routes.proofs.Costs.{at_most_far}
use Rattle.routes.proofs.Follows.{waits, waits_taking, Kept, Moved, Follows, falls}
use Rattle.routes.proofs.Standing.{in_push}
use Rattle.routes.proofs.Labels.{Cheaper, Settled, Preceded, Through, Labels}

module _ {K : Type 0} (m : Kind K) (task : Task K) where
  -- one of the offers os gives v at most the cost c
  pub record OfferedTo (os : List (Offer K)) (v : ℕ) (c : K) : Type 0 where
    pub offer : Offer K
    pub made : Contains os offer
    pub here : offer.station ≡ v
    pub at_most : AtMost m offer.cost c

  -- what the offers os of a station t have to be, in a state s that taking xs has led to
  pub record Fair (xs : List ℕ) (s : State K) (t : ℕ) (os : List (Offer K)) : Type 0 where
    -- each that is accepted is the cost of a walk, over its predecessor and through its first station
    pub given : (o : Offer K) → Contains os o → Below m o.cost (s.row.costs o.station) → Preceded m task o.predecessor o.station o.cost
    pub firsts : task.method ≡ Prune → (o : Offer K) → Contains os o → Below m o.cost (s.row.costs o.station) → Through m task (xs ++ t ∷ []) o.first o.station o.cost
    -- no link from t is left out, unless a walk is cheaper
    pub covers : (l : Link K) → Contains task.network.links l → l.from ≡ t
        → OfferedTo os l.to (m.joined (s.row.costs t) l.cost) ⊎ ((Same m (m.joined (s.row.costs t) l.cost) m.far) ⊎ Cheaper m task l.to (m.joined (s.row.costs t) l.cost))
    -- nor a link from a station that is not put
    pub goes_on : (o : Offer K) → Contains os o → o.puts ≡ false → (l : Link K) → Contains task.network.links l → l.from ≡ o.station → OfferedTo os l.to (m.joined o.cost l.cost)

  module _ (laws : Laws m) (zero_least : ZeroLeast m) {xs : List ℕ} {s : State K} (labels : Labels m task xs s) {t : ℕ}
      {os : List (Offer K)} (fair : Fair xs s t os) {s' : State K} (f : Follows m (taking s t) os s')
    where
      -- who waits once t was taken
      waits_other : (v : ℕ) → (v ≢ t) → waits (taking s t) v ≡ false → waits s v ≡ false
      waits_other v ne w = let e = waits_taking s t v in grind (arith, nat_tests)

      -- nothing is offered to the source
      not_source : (v : ℕ) → Moved m (taking s t) os v s' → v ≢ task.source
      not_source v d e =
          let z = zero_least d.offer.cost in
          let l = d.lower in
          let at = ap m.rank (ap s.row.costs e ∙ labels.source) in
          omega arith

      given_moved : (v : ℕ) → Moved m (taking s t) os v s' → Preceded m task (s'.row.predecessors v) v (s'.row.costs v)
      given_moved v d =
          let there = subst (λ (u : ℕ). Below m d.offer.cost (s.row.costs u) → Preceded m task d.offer.predecessor u d.offer.cost) d.here (fair.given d.offer d.made) in
          rw (d.predecessor, d.cost) (there d.lower)

      firsts_moved : task.method ≡ Prune → (v : ℕ) → Moved m (taking s t) os v s' → Through m task (xs ++ t ∷ []) (s'.firsts v) v (s'.row.costs v)
      firsts_moved prune v d =
          let there = subst (λ (u : ℕ). Below m d.offer.cost (s.row.costs u) → Through m task (xs ++ t ∷ []) d.offer.first u d.offer.cost) d.here (fair.firsts prune d.offer d.made) in
          rw (d.first, d.cost) (there d.lower)

      -- what was taken before was taken by now
      through_longer : {q : Option ℕ} {v : ℕ} {c : K} → Through m task xs q v c → Through m task (xs ++ t ∷ []) q v c
      through_longer by = record {
        link = by.link;
        is = by.is;
        laid = by.laid;
        leaves = by.leaves;
        cost = by.cost;
        walk = by.walk;
        costs_that = by.costs_that;
        known = ⊎_elim inl (λ on_it. inr (in_push by.link.to xs t on_it)) by.known;
      }

      near_moved : (v : ℕ) → Moved m (taking s t) os v s' → Below m (s'.row.costs v) m.far
      near_moved v d =
          let e = ap m.rank d.cost in
          let l = d.lower in
          let most = at_most_far laws (s.row.costs v) in
          omega arith

      -- a link over which something is offered to its end is settled
      settled_by : (l : Link K) (c : K) → OfferedTo os l.to c → AtMost m (s'.row.costs l.to) c
      settled_by l c o =
          let at = f.at_most o.offer o.made in
          let e = ap (λ (u : ℕ). m.rank (s'.row.costs u)) o.here in
          let le = o.at_most in
          omega arith

      -- a link from a station that kept its label
      closed_kept : (l : Link K) → Contains task.network.links l → Kept (taking s t) l.from s' → waits s' l.from ≡ false → Below m (s.row.costs l.from) m.far
          → Settled m task s' l.to (m.joined (s.row.costs l.from) l.cost)
      closed_kept l laid k rests below =
          ⊎_elim
          (λ (here : l.from ≡ t).
          rw here
          (⊎_elim
          (λ o. inl (settled_by l (m.joined (s.row.costs t) l.cost) o))
          (λ other. ⊎_elim (λ far. inl (let most = at_most_far laws (s'.row.costs l.to) in omega arith)) (λ ch. inr ch) other)
          (fair.covers l laid here)))
          (λ (ne : l.from ≢ t).
          ⊎_elim
          (λ le. inl (let down = falls m f l.to in omega arith))
          (λ ch. inr ch)
          (labels.closed l laid (waits_other l.from ne (sym k.waiting ∙ rests)) below))
          (cases_eq l.from t)

      -- a link from a station that got another label and does not wait
      closed_moved : (l : Link K) → Contains task.network.links l → Moved m (taking s t) os l.from s' → waits s' l.from ≡ false
          → (d : K) → s'.row.costs l.from ≡ d → Settled m task s' l.to (m.joined d l.cost)
      closed_moved l laid d rests c same =
          ⊎_elim
          (λ yes. absurd (true≢false (sym yes ∙ rests)))
          (λ not_put. inl (rw (sym same, d.cost) (settled_by l (m.joined d.offer.cost l.cost) (fair.goes_on d.offer d.made not_put.0 l laid (sym d.here)))))
          d.waiting

      pub labels_followed : Labels m task (xs ++ t ∷ []) s'
      labels_followed = record {
        source = ⊎_elim (λ k. k.cost ∙ labels.source) (λ d. absurd (not_source task.source d refl)) (f.fate task.source);
        source_none = ⊎_elim (λ k. k.predecessor ∙ labels.source_none) (λ d. absurd (not_source task.source d refl)) (f.fate task.source);
        far_none = λ v far. ⊎_elim
            (λ k. k.predecessor ∙ labels.far_none v (sym (ap m.rank k.cost) ∙ far))
            (λ d. let n = near_moved v d in absurd (omega arith))
            (f.fate v);
        given = λ v ne below. ⊎_elim
            (λ k. rw (k.predecessor, k.cost) (labels.given v ne (let e = ap m.rank k.cost in omega arith)))
            (given_moved v)
            (f.fate v);
        firsts = λ prune v ne below. ⊎_elim
            (λ k. rw (k.first, k.cost) (through_longer (labels.firsts prune v ne (let e = ap m.rank k.cost in omega arith))))
            (firsts_moved prune v)
            (f.fate v);
        closed = λ l laid rests below. ⊎_elim
            (λ k. rw k.cost (closed_kept l laid k rests (let e = ap m.rank k.cost in omega arith)))
            (λ d. closed_moved l laid d rests (s'.row.costs l.from) refl)
            (f.fate l.from);
      }
