-- How stations stand while a method runs: which were taken, and which wait.
use Rattle.std.proofs.Common.{◌≡◌, ℕ, ◌+◌, ◌<◌, ◌≤◌, true, false, ⊎_elim, List, [], ◌∷◌, ◌++◌, is_some, cond, sym, ap, ◌∙◌, ◌==◌, arith}
use Rattle.std.specs.List.{Contains}
use Rattle.std.proofs.lemmas.Bool.{cases_eq, true≢false}
use Rattle.std.proofs.lemmas.Bool.Decides.{nat_tests}
use Rattle.std.proofs.lemmas.List.Sums.{sum_by_push}
use Rattle.cost.specs.Kind.{Kind, FAR}
use Rattle.queue.specs.Drained.{times}
use Rattle.queue.specs.Meaning.{Lowest}
use Rattle.routes.specs.NoneTwice.{NoneTwice}
use Rattle.routes.specs.State.{State}
use Rattle.routes.specs.Offers.{Offer}
use Rattle.routes.specs.Runs.{taking}
use Rattle.routes.proofs.Follows.{waits, Ranked, Kept, Moved, Follows, waits_taking, ranked_taking, lowest_label}
use Rattle.routes.proofs.OnwardOffers.{Onward}

-- of n stations xs were taken, none at a higher rank than x, and those that wait do so at no lower rank than x; where P holds, each
-- station below FAR was taken or waits
pub record Standing {K : Type 0} (m : Kind K) (n : ℕ) (P : Type 0) (xs : List ℕ) (x : ℕ) (s : State K) : Type 0 where
  pub none_twice : NoneTwice xs
  pub taken : (v : ℕ) → 1 ≤ times v xs → (waits s v ≡ false) × (v < n) × (m.rank (s.row.costs v) < FAR) × (m.rank (s.row.costs v) ≤ x)
  pub waiting : (v : ℕ) → waits s v ≡ true → (v < n) × (m.rank (s.row.costs v) < FAR) × (x ≤ m.rank (s.row.costs v))
  pub ranked : Ranked m s
  pub whole : P → (v : ℕ) → m.rank (s.row.costs v) < FAR → waits s v ≡ false → 1 ≤ times v xs

-- how often a station stands in a list that is longer by one
pub times_push : (v : ℕ) (xs : List ℕ) (t : ℕ) → times v (xs ++ t ∷ []) ≡ times v xs + cond (t == v) 1 0
times_push v xs t = sum_by_push (λ u. cond (u == v) 1 0) xs t

pub in_push : (v : ℕ) (xs : List ℕ) (t : ℕ) → 1 ≤ times v xs → 1 ≤ times v (xs ++ t ∷ [])
in_push v xs t on_it = let more = times_push v xs t in omega arith

pub last_in_push : (xs : List ℕ) (t : ℕ) → 1 ≤ times t (xs ++ t ∷ [])
last_in_push xs t = let more = times_push t xs t in grind (arith, nat_tests)

module _ {K : Type 0} {m : Kind K} {n : ℕ} {P : Type 0} {xs : List ℕ} {s : State K} where
  -- a station of the lowest rank is taken
  pub standing_taking : {x t : ℕ} → Standing m n P xs x s → Lowest s.queue t → Standing m n P (xs ++ t ∷ []) (m.rank (s.row.costs t)) (taking s t)
  standing_taking {x} {t} standing low =
      let here = standing.waiting t (ap is_some low.waits) in
      let t_waits : waits s t ≡ true = ap is_some low.waits in
      record {
        none_twice = record { at_most_once = λ v. let more = times_push v xs t in let once = standing.none_twice.at_most_once v in let old = standing.taken v in grind (arith, nat_tests, cases_eq t v) };
        taken = λ v in_xs. let more = times_push v xs t in let old = standing.taken v in let w = waits_taking s t v in
            (grind (arith, nat_tests, cases_eq t v), grind (arith, nat_tests, cases_eq t v), grind (arith, nat_tests, cases_eq t v), grind (arith, nat_tests, cases_eq t v));
        waiting = λ v yes. let old = standing.waiting v in let w = waits_taking s t v in let le = lowest_label m s t standing.ranked low v in
            (grind (arith, nat_tests, cases_eq t v), grind (arith, nat_tests, cases_eq t v), grind (arith, nat_tests, cases_eq t v));
        ranked = ranked_taking m s t standing.ranked;
        whole = λ p v near rests. let more = times_push v xs t in let old = standing.whole p v in let w = waits_taking s t v in grind (arith, nat_tests, cases_eq t v);
      }

  -- what it offers changes no station that was taken
  module _ {x : ℕ} (standing : Standing m n P xs x s) {os : List (Offer K)} {s' : State K} (f : Follows m s os s') (onward : (o : Offer K) → Contains os o → Onward m n P x o) where
    pub taken_kept : (v : ℕ) → m.rank (s.row.costs v) ≤ x → Kept s v s'
    taken_kept v low = ⊎_elim (λ k. k) (λ d. let l = d.lower in let o = (onward d.offer d.made).no_lower in absurd (omega arith)) (f.fate v)

    whole_moved : P → (v : ℕ) → waits s' v ≡ false → Moved m s os v s' → ⊥
    whole_moved p v rests d =
        let puts = (onward d.offer d.made).puts p in
        ⊎_elim (λ yes. true≢false (sym yes ∙ rests)) (λ not_put. true≢false (sym puts ∙ not_put.0)) d.waiting

    waiting_moved : (fits : (a : K) → m.rank a ≤ FAR) (v : ℕ) → Moved m s os v s' → (v < n) × (m.rank (s'.row.costs v) < FAR) × (x ≤ m.rank (s'.row.costs v))
    waiting_moved fits v d =
        let cost = ap m.rank d.cost in
        let o = onward d.offer d.made in
        let there = o.there in
        let high = o.no_lower in
        let lower = d.lower in
        let most = fits (s.row.costs v) in
        let here = d.here in
        (omega arith, omega arith, omega arith)

    pub standing_followed : (fits : (a : K) → m.rank a ≤ FAR) → Standing m n P xs x s'
    standing_followed fits = record {
      none_twice = standing.none_twice;
      taken = λ v in_xs. let old = standing.taken v in_xs in let k = taken_kept v old.3 in (k.waiting ∙ old.0, old.1, rw k.cost old.2, rw k.cost old.3);
      waiting = λ v yes. ⊎_elim (λ k. rw k.cost (standing.waiting v (sym k.waiting ∙ yes))) (waiting_moved fits v) (f.fate v);
      ranked = f.ranked standing.ranked;
      whole = λ p v near rests. ⊎_elim (λ k. standing.whole p v (rw k.cost at near) (sym k.waiting ∙ rests)) (λ d. absurd (whole_moved p v rests d)) (f.fate v);
    }
