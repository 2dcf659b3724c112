-- What becomes of each station when offers are made one after the other: it keeps all it has, or it has what one of them said.
use Rattle.std.proofs.Common.{◌≡◌, ℕ, Bool, true, false, ◌⊎◌, inl, inr, ⊎_elim, List, [], ◌∷◌, Option, Some, None, is_some, if◌then◌else◌, ◌||◌, ◌==◌, refl, sym, ap, subst, arith, ◌∙◌}
use Rattle.std.specs.List.{Contains}
use Rattle.std.proofs.lemmas.Bool.{cases_eq, cases_lt, cases_Bool, lt-ltb, le-ltb, true≢false}
use Rattle.std.proofs.lemmas.Bool.Decides.{nat_tests}
use Rattle.cost.specs.Kind.{Kind, AtMost, Below}
use Rattle.queue.specs.Calls.{at_rank, after_put}
use Rattle.queue.specs.Meaning.{Meaning, Waits, Lowest}
use Rattle.routes.proofs.Members.{in_none, in_first, in_later, in_cases}
use Rattle.routes.specs.State.{State}
use Rattle.routes.specs.Runs.{taking}
use Rattle.routes.specs.Offers.{Offer, accepted, offered, offered_all}

-- whether a station waits
abbrev pub waits : {K : Type 0} → State K → ℕ → Bool
waits s v = is_some (s.queue.ranks v)

-- a station that waits does so at the rank of its label
abbrev pub Ranked : {K : Type 0} → Kind K → State K → Type 0
Ranked m s = (v x : ℕ) → Waits s.queue v x → x ≡ m.rank (s.row.costs v)

-- station v has in s' all that it has in s
pub record Kept {K : Type 0} (s : State K) (v : ℕ) (s' : State K) : Type 0 where
  pub cost : s'.row.costs v ≡ s.row.costs v
  pub predecessor : s'.row.predecessors v ≡ s.row.predecessors v
  pub first : s'.firsts v ≡ s.firsts v
  pub waiting : waits s' v ≡ waits s v

-- station v has in s' what one of the offers os said, below its label in s; it waits unless the offer does not put it and it did not wait before
pub record Moved {K : Type 0} (m : Kind K) (s : State K) (os : List (Offer K)) (v : ℕ) (s' : State K) : Type 0 where
  pub offer : Offer K
  pub made : Contains os offer
  pub here : offer.station ≡ v
  pub lower : Below m offer.cost (s.row.costs v)
  pub cost : s'.row.costs v ≡ offer.cost
  pub predecessor : s'.row.predecessors v ≡ offer.predecessor
  pub first : s'.firsts v ≡ offer.first
  pub waiting : (waits s' v ≡ true) ⊎ ((offer.puts ≡ false) × (waits s' v ≡ false) × (waits s v ≡ false))

-- a station that is taken waits no more, and the others do as before
pub waits_taking : {K : Type 0} (s : State K) (t v : ℕ) → waits (taking s t) v ≡ (if v == t then false else waits s v)
waits_taking s t v = grind (arith, nat_tests)

ranks_if : (b : Bool) (p q : Meaning) (v : ℕ) → (if b then p else q).ranks v ≡ (if b then p.ranks v else q.ranks v)
ranks_if true p q v = refl
ranks_if false p q v = refl

module _ {K : Type 0} (m : Kind K) where
  -- an offer that is accepted
  module _ (s : State K) (o : Offer K) (below : Below m o.cost (s.row.costs o.station)) where
    ranks_after : (v : ℕ) → (accepted m s o).queue.ranks v ≡ (if o.puts || waits s o.station then (after_put s.queue o.station (m.rank o.cost)).ranks v else s.queue.ranks v)
    ranks_after v = ranks_if (o.puts || waits s o.station) (after_put s.queue o.station (m.rank o.cost)) s.queue v

    accepted_waits : (o.puts ≡ true) ⊎ (o.puts ≡ false) → (waits s o.station ≡ true) ⊎ (waits s o.station ≡ false)
        → (waits (accepted m s o) o.station ≡ true) ⊎ ((o.puts ≡ false) × (waits (accepted m s o) o.station ≡ false) × (waits s o.station ≡ false))
    accepted_waits (inl p) w = let e = ranks_after o.station in inl (grind (arith, nat_tests))
    accepted_waits (inr p) (inl w) = let e = ranks_after o.station in inl (grind (arith, nat_tests))
    accepted_waits (inr p) (inr w) = let e = ranks_after o.station in inr (p, grind (arith, nat_tests), w)

    moved_by : Moved m s (o ∷ []) o.station (accepted m s o)
    moved_by = record {
      offer = o;
      made = (0, omega arith, refl);
      here = refl;
      lower = below;
      cost = grind (arith, nat_tests);
      predecessor = grind (arith, nat_tests);
      first = grind (arith, nat_tests);
      waiting = accepted_waits (cases_Bool o.puts) (cases_Bool (waits s o.station));
    }

    others_kept : (v : ℕ) → (v ≡ o.station → ⊥) → Kept s v (accepted m s o)
    others_kept v ne = record {
      cost = grind (arith, nat_tests);
      predecessor = grind (arith, nat_tests);
      first = grind (arith, nat_tests);
      waiting = let e = ranks_after v in grind (arith, nat_tests);
    }

    -- and one that waits does so at its new label's rank
    at_new_rank : (q : Option ℕ) → ((y : ℕ) → q ≡ Some y → y ≡ m.rank (s.row.costs o.station)) → at_rank q (m.rank o.cost) ≡ m.rank o.cost
    at_new_rank None r = refl
    at_new_rank (Some y) r = let e = r y refl in omega (arith, below)

    ranked_here : Ranked m s → (x : ℕ) → Waits (accepted m s o).queue o.station x → x ≡ m.rank ((accepted m s o).row.costs o.station)
    ranked_here ranked x w =
        let e = ranks_after o.station in
        let n = at_new_rank (s.queue.ranks o.station) (ranked o.station) in
        grind (arith, nat_tests)

    ranked_others : Ranked m s → (v x : ℕ) → (v ≡ o.station → ⊥) → Waits (accepted m s o).queue v x → x ≡ m.rank ((accepted m s o).row.costs v)
    ranked_others ranked v x ne w =
        let e = ranks_after v in
        let r = ranked v x in
        grind (arith, nat_tests)

    ranked_on : Ranked m s → Ranked m (accepted m s o)
    ranked_on ranked v x w =
        ⊎_elim
        (λ (e : v ≡ o.station). subst (λ (u : ℕ). Waits (accepted m s o).queue u x → x ≡ m.rank ((accepted m s o).row.costs u)) (sym e) (ranked_here ranked x) w)
        (λ (ne : v ≡ o.station → ⊥). ranked_others ranked v x ne w)
        (cases_eq v o.station)

  -- what is said of states and holds whether or not an offer is accepted
  by_offer : (s : State K) (o : Offer K) (P : State K → Type 0) → (Below m o.cost (s.row.costs o.station) → P (accepted m s o)) → (AtMost m (s.row.costs o.station) o.cost → P s) → P (offered m s o)
  by_offer s o P up not_up =
      ⊎_elim
      (λ (lt : Below m o.cost (s.row.costs o.station)). rw (lt-ltb (m.rank o.cost) (m.rank (s.row.costs o.station)) lt) (up lt))
      (λ (le : AtMost m (s.row.costs o.station) o.cost). rw (le-ltb (m.rank o.cost) (m.rank (s.row.costs o.station)) le) (not_up le))
      (cases_lt (m.rank o.cost) (m.rank (s.row.costs o.station)))

  -- state s' came of s by the offers os: none lies below the label that its station has then, and ranks are those of labels as before
  pub record Follows (s : State K) (os : List (Offer K)) (s' : State K) : Type 0 where
    pub fate : (v : ℕ) → Kept s v s' ⊎ Moved m s os v s'
    pub at_most : (o : Offer K) → Contains os o → AtMost m (s'.row.costs o.station) o.cost
    pub ranked : Ranked m s → Ranked m s'

  all_kept : (s : State K) (v : ℕ) → Kept s v s
  all_kept s v = record { cost = refl; predecessor = refl; first = refl; waiting = refl }

  -- labels only fall
  pub falls : {s s' : State K} {os : List (Offer K)} → Follows s os s' → (v : ℕ) → AtMost m (s'.row.costs v) (s.row.costs v)
  falls f v =
      ⊎_elim
      (λ k. let e = ap m.rank (k.cost) in omega arith)
      (λ d. let e = ap m.rank (d.cost) in let l = d.lower in omega arith)
      (f.fate v)

  follows_one : (s : State K) (o : Offer K) → Follows s (o ∷ []) (offered m s o)
  follows_one s o =
      by_offer s o (Follows s (o ∷ []))
      (λ below. record {
        fate = λ v. ⊎_elim
            (λ (e : v ≡ o.station). inr (subst (λ (u : ℕ). Moved m s (o ∷ []) u (accepted m s o)) (sym e) (moved_by s o below)))
            (λ (ne : v ≡ o.station → ⊥). inl (others_kept s o below v ne))
            (cases_eq v o.station);
        at_most = only o (λ o'. AtMost m ((accepted m s o).row.costs o'.station) o'.cost) (grind (arith, nat_tests));
        ranked = ranked_on s o below;
      })
      (λ above. record { fate = λ v. inl (all_kept s v); at_most = only o (λ o'. AtMost m (s.row.costs o'.station) o'.cost) above; ranked = λ r. r })
    where
      only : (o : Offer K) (P : Offer K → Type 0) → P o → (o' : Offer K) → Contains (o ∷ []) o' → P o'
      only o P here o' has = ⊎_elim (λ same. rw same here) (λ none. absurd (in_none none)) (in_cases o [] o' has)

  -- one offer, and then others
  module _ {s s' s'' : State K} {o : Offer K} {os : List (Offer K)} (one : Follows s (o ∷ []) s') (rest : Follows s' os s'') where
    after_kept : (v : ℕ) → Kept s' v s'' → Kept s v s' ⊎ Moved m s (o ∷ []) v s' → Kept s v s'' ⊎ Moved m s (o ∷ os) v s''
    after_kept v k (inl j) = inl (record { cost = k.cost ∙ j.cost; predecessor = k.predecessor ∙ j.predecessor; first = k.first ∙ j.first; waiting = k.waiting ∙ j.waiting })
    after_kept v k (inr d) = inr (record {
      offer = d.offer;
      made = ⊎_elim (λ same. rw same (in_first o os)) (λ none. absurd (in_none none)) (in_cases o [] d.offer d.made);
      here = d.here;
      lower = d.lower;
      cost = k.cost ∙ d.cost;
      predecessor = k.predecessor ∙ d.predecessor;
      first = k.first ∙ d.first;
      waiting = ⊎_elim (λ w. inl (k.waiting ∙ w)) (λ w. inr (w.0, k.waiting ∙ w.1, w.2)) d.waiting;
    })

    waited_not : (v : ℕ) → waits s' v ≡ false → Kept s v s' ⊎ Moved m s (o ∷ []) v s' → waits s v ≡ false
    waited_not v w (inl k) = sym k.waiting ∙ w
    waited_not v w (inr d) = ⊎_elim (λ yes. absurd (true≢false (sym yes ∙ w))) (λ no. no.2) d.waiting

    after_moved : (v : ℕ) → Moved m s' os v s'' → Moved m s (o ∷ os) v s''
    after_moved v d = record {
      offer = d.offer;
      made = in_later o os d.offer d.made;
      here = d.here;
      lower = let l = d.lower in let f = falls one v in omega arith;
      cost = d.cost;
      predecessor = d.predecessor;
      first = d.first;
      waiting = ⊎_elim inl (λ w. inr (w.0, w.1, waited_not v w.2 (one.fate v))) d.waiting;
    }

    then_rest : Follows s (o ∷ os) s''
    then_rest = record {
      fate = λ v. ⊎_elim (λ k. after_kept v k (one.fate v)) (λ d. inr (after_moved v d)) (rest.fate v);
      at_most = λ o' has. ⊎_elim
          (λ (same : o' ≡ o). rw same (let a = one.at_most o (in_first o []) in let f = falls rest o.station in omega arith))
          (λ later. rest.at_most o' later)
          (in_cases o os o' has);
      ranked = λ r. rest.ranked (one.ranked r);
    }

  -- so with all of them
  pub follows_all : (os : List (Offer K)) (s : State K) → Follows s os (offered_all m s os)
  follows_all [] s = record { fate = λ v. inl (all_kept s v); at_most = λ o none. absurd (in_none none); ranked = λ r. r }
  follows_all (o ∷ os) s = then_rest (follows_one s o) (follows_all os (offered m s o))

  -- who waits still does so at its label's rank once a station was taken
  pub ranked_taking : (s : State K) (t : ℕ) → Ranked m s → Ranked m (taking s t)
  ranked_taking s t ranked v x w = let r = ranked v x in grind (arith, nat_tests)

  -- one of the lowest rank has one of the lowest labels of those that wait
  lowest_of : (s : State K) (t : ℕ) → Ranked m s → Lowest s.queue t → (v : ℕ) (q : Option ℕ) → s.queue.ranks v ≡ q → is_some q ≡ true → AtMost m (s.row.costs t) (s.row.costs v)
  lowest_of s t ranked low v None at some = absurd (true≢false (sym some))
  lowest_of s t ranked low v (Some x) at some =
      let here = ranked t low.rank low.waits in
      let there = ranked v x at in
      let le = low.least v x at in
      omega arith

  pub lowest_label : (s : State K) (t : ℕ) → Ranked m s → Lowest s.queue t → (v : ℕ) → waits s v ≡ true → AtMost m (s.row.costs t) (s.row.costs v)
  lowest_label s t ranked low v = lowest_of s t ranked low v (s.queue.ranks v) refl
