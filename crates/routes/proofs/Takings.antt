-- No station is taken twice, so every run ends; and how many are taken.
use Rattle.std.proofs.Common.{◌≡◌, ◌≢◌, ℕ, zero, suc, ◌+◌, ◌<◌, ◌≤◌, ◌⊎◌, List, [], ◌∷◌, ◌++◌, length, min, nat_lt, arith, ⊎_elim, refl, ap, ◌∙◌, is_some, subst, append_assoc}
use Rattle.std.proofs.lemmas.Bool.{cases_eq}
use Rattle.std.proofs.lemmas.Bool.Decides.{nat_tests}
use Rattle.std.proofs.lemmas.List.{length_push, append-nil}
use Rattle.cost.specs.Kind.{Kind, FAR}
use Rattle.cost.specs.Laws.{Laws, ZeroLeast}
use Rattle.queue.specs.Drained.{times}
use Rattle.queue.specs.Meaning.{Nobody, Lowest, most_stations, most_taken}
use Rattle.routes.specs.NoneTwice.{NoneTwice}
use Rattle.routes.specs.Offers.{Offer, offered, offered_all}
use Rattle.routes.specs.Methods.{offers}
use Rattle.routes.specs.Runs.{Reached, Run, start, next, taking, followed, below_far}
use Rattle.routes.specs.Task.{Task, Workable}
use Rattle.routes.specs.State.{State, begun}
use Rattle.routes.specs.declared.method.Method.TheVariants.{Reuse}
use Rattle.routes.proofs.Counting.{counted_few, at_most_counted, at_least_counted}
use Rattle.routes.proofs.OnwardOffers.{offers_onward}
use Rattle.routes.proofs.LowestFound.{lowest_found}
use Rattle.routes.proofs.Follows.{Kept, follows_all}
use Rattle.routes.proofs.Standing.{Standing, standing_taking, standing_followed, taken_kept}

module _ {K : Type 0} {m : Kind K} {task : Task K} (laws : Laws m) (zero_least : ZeroLeast m) (workable : Workable task) where
  -- at the start the source waits, and nobody was taken
  begun_standing : Standing m task.network.stations (task.method ≢ Reuse) [] 0 (begun m task)
  begun_standing =
      let fits = laws.rank_fits m.zero in
      let far = laws.far_rank in
      let not_far = laws.zero_is_not_far in
      let there = workable.source_there in
      record {
        none_twice = record { at_most_once = λ v. omega arith };
        taken = λ v in_xs. absurd (omega arith);
        waiting = λ v yes. (grind (arith, nat_tests, cases_eq v task.source), grind (arith, nat_tests, cases_eq v task.source), omega arith);
        ranked = λ v y w. grind (arith, nat_tests);
        whole = λ p v near rests. grind (arith, nat_tests, cases_eq v task.source);
      }

  -- so at every state that is reached
  pub reached_standing : {xs : List ℕ} {s : State K} → Reached m task xs s → (x : ℕ) × Standing m task.network.stations (task.method ≢ Reuse) xs x s
  reached_standing start = (0, begun_standing)
  reached_standing (next {xs} {s} {t} reached low) =
      (m.rank (s.row.costs t), standing_followed (standing_taking (reached_standing reached).1 low) (follows_all m (offers m task s t) (taking s t)) (offers_onward laws zero_least workable s t) laws.rank_fits)

  -- what the state has of a station that was taken stays when the next is taken, as does all that it has of that
  pub taken_keeps : {xs : List ℕ} {s : State K} {t : ℕ} → Reached m task xs s → Lowest s.queue t → (v : ℕ) → 1 ≤ times v (xs ++ t ∷ []) → Kept (taking s t) v (followed m task s t)
  taken_keeps {xs} {s} {t} reached low v in_xs =
      let standing = standing_taking (reached_standing reached).1 low in
      taken_kept standing (follows_all m (offers m task s t) (taking s t)) (offers_onward laws zero_least workable s t) v (standing.taken v in_xs).3

  goes_on : {xs : List ℕ} {s : State K} → Reached m task xs s → Nobody s.queue ⊎ ((t : ℕ) × Lowest s.queue t)
  goes_on {xs} {s} reached = lowest_found s.queue task.network.stations (λ v y w. ((reached_standing reached).1.waiting v (ap is_some w)).0)

  pub none_twice : {xs : List ℕ} {s : State K} → Reached m task xs s → NoneTwice xs
  none_twice reached = (reached_standing reached).1.none_twice

  pub at_most_below_far : {xs : List ℕ} {s : State K} → Reached m task xs s → length xs ≤ below_far m task.network.stations s.row
  at_most_below_far {xs} {s} reached =
      let standing = (reached_standing reached).1 in
      at_most_counted (λ v. nat_lt (m.rank (s.row.costs v)) FAR) xs task.network.stations
      (λ v. let once = standing.none_twice.at_most_once v in let taken = standing.taken v in grind (arith, nat_tests))
      (λ v late. let taken = standing.taken v in grind arith)

  pub at_most_stations : {xs : List ℕ} {s : State K} → Reached m task xs s → length xs ≤ task.network.stations
  at_most_stations {xs} {s} reached =
      omega (arith, at_most_below_far reached, counted_few (λ v. nat_lt (m.rank (s.row.costs v)) FAR) task.network.stations)

  -- so a run that was begun comes to its end
  to_the_end : (b : ℕ) {xs : List ℕ} {s : State K} → Reached m task xs s → task.network.stations < length xs + b → (ys : List ℕ) × (e : State K) × Run m task (xs ++ ys) e
  to_the_end zero {xs} {s} reached room = let most = at_most_stations reached in absurd (omega arith)
  to_the_end (suc b) {xs} {s} reached room =
      ⊎_elim
      (λ over. ([], s, rw (append-nil xs) (record { reached = reached; over = over })))
      (λ low.
      let rest = to_the_end b (next reached low.1) (omega (arith, length_push xs low.0)) in
      (low.0 ∷ rest.0, rest.1, subst (λ (zs : List ℕ). Run m task zs rest.1) (append_assoc xs (low.0 ∷ []) rest.0) rest.2))
      (goes_on reached)

  pub ends_once : {xs : List ℕ} {s : State K} → Reached m task xs s → (ys : List ℕ) × (e : State K) × Run m task (xs ++ ys) e
  ends_once reached = to_the_end (suc task.network.stations) reached (omega arith)

  pub all_below_far : {xs : List ℕ} {s : State K} → task.method ≢ Reuse → Run m task xs s → length xs ≡ below_far m task.network.stations s.row
  all_below_far {xs} {s} other run =
      let standing = (reached_standing run.reached).1 in
      let most = at_most_below_far run.reached in
      let least = at_least_counted (λ v. nat_lt (m.rank (s.row.costs v)) FAR) xs task.network.stations
      (λ v. let whole = standing.whole other v in let over = ap is_some (run.over v) in grind (arith, nat_tests)) in
      omega arith

  -- the number taken, which offers leave as it is
  same_taken : (s : State K) (os : List (Offer K)) → (offered_all m s os).queue.taken ≡ s.queue.taken
  same_taken s [] = refl
  same_taken s (o ∷ os) = same_taken (offered m s o) os ∙ grind (arith, nat_tests)

  taken_to_most : {xs : List ℕ} {s : State K} → Reached m task xs s → s.queue.taken ≡ min (length xs) most_taken
  taken_to_most start = omega arith
  taken_to_most (next {xs} {s} {t} reached low) =
      let so_far = taken_to_most reached in
      omega (arith, same_taken (taking s t) (offers m task s t), length_push xs t)

  pub all_taken : {xs : List ℕ} {s : State K} → task.network.stations ≤ most_stations → Reached m task xs s → s.queue.taken ≡ length xs
  all_taken few reached = omega (arith, taken_to_most reached, at_most_stations reached)

  -- a whole run takes the source
  some_taken : {xs : List ℕ} {s : State K} → Reached m task xs s → Nobody s.queue → 1 ≤ length xs
  some_taken start nobody = let none = nobody task.source in grind (arith, nat_tests)
  some_taken (next {xs} {s} {t} reached low) nobody = omega (arith, length_push xs t)

  pub run_takes : {xs : List ℕ} {s : State K} → task.network.stations ≤ most_stations → Run m task xs s → 1 ≤ s.queue.taken
  run_takes few run = omega (arith, all_taken few run.reached, some_taken run.reached run.over)

-- what the contracts want
pub ruleset ends = (none_twice, at_most_stations, ends_once)

pub ruleset counts = (all_taken, run_takes, at_most_below_far, all_below_far)
