-- A run that was begun goes on with each station taken, and is whole where nobody waits.
use Rattle.std.specs.Prelude.{◌≡◌, ℕ, ◌+◌, ◌<◌, ◌≤◌, List, [], ◌∷◌, ◌++◌, Option, Some, None, length, replicate, slice_index_or}
use Rattle.std.proofs.Common.{◌∙◌, refl, arith, sym, ap, subst, ⊎_elim}
use Rattle.std.proofs.Math.Path.{fun_ext}
use Rattle.std.proofs.lemmas.Bool.{cases_lt}
use Rattle.std.proofs.lemmas.List.{get_or-replicate, get_or_past, length-append, length-replicate}
use Rattle.cost.specs.Kind.{Kind}
use Rattle.cost.specs.Laws.{Laws, ZeroLeast}
use Rattle.queue.specs.Meaning.{Meaning, Sound, Lowest, most_stations}
use Rattle.queue.specs.Calls.{Untaken, Taken}
use Rattle.routes.specs.Row.{Row}
use Rattle.routes.specs.Task.{Task, Workable}
use Rattle.routes.specs.State.{State, begun}
use Rattle.routes.specs.Offers.{offered_all}
use Rattle.routes.specs.Methods.{by_method, offers, reuse}
use Rattle.routes.specs.Runs.{Reached, start, next, followed}
use Rattle.routes.specs.declared.method.Method.{Method}
use Rattle.routes.specs.declared.method.Method.TheVariants.{Plain, Reuse, Prune}
use Rattle.routes.proofs.Takings.{all_taken, at_most_stations}
use Rattle.ledger.specs.Worked.{EndsIn}

module _ {K : Type 0} (m : Kind K) (task : Task K) where
  -- some stations may be taken one after the other so that s is the state then
  pub record Underway (s : State K) : Type 0 where
    pub stations : List ℕ
    pub reached : Reached m task stations s

  pub set_off : {s : State K} → s ≡ begun m task → Underway s
  set_off same = record { stations = []; reached = subst (Reached m task []) (sym same) (start) }

  -- what is offered does not hang on who waits
  module _ (s : State K) (q : Meaning) (t : ℕ) where
    abbrev then_so : State K
    then_so = record { row = s.row; firsts = s.firsts; queue = q }

    reuse_alike : (row : Option (Row K)) → reuse m task then_so t row ≡ reuse m task s t row
    reuse_alike None = refl
    reuse_alike (Some row) = refl

    alike : (method : Method) → by_method m task then_so t method ≡ by_method m task s t method
    alike Plain = refl
    alike Reuse = reuse_alike (task.rows t)
    alike Prune = refl

  -- t is taken from s, what it offers is followed in the state mid, and s' is the state then
  module _ {s s' : State K} {q : Meaning} {t : ℕ} {task' : Task K} (same : task' ≡ task) (under : Underway s) (taken : Taken s.queue t q)
      (step : (let mid : State K = record { row = s.row; firsts = s.firsts; queue = q } in s' ≡ offered_all m mid (offers m task' mid t))) where
    followed_so : s' ≡ followed m task s t
    followed_so =
        let mid : State K = record { row = s.row; firsts = s.firsts; queue = q } in
        step
        ∙ ap (λ k. offered_all m mid (offers m k mid t)) same
        ∙ ap (offered_all m mid) (alike s q t task.method)
        ∙ ap (λ p. offered_all m (record { row = s.row; firsts = s.firsts; queue = p }) (offers m task s t)) taken.after

    pub goes_on : Underway s'
    goes_on = record {
      stations = under.stations ++ t ∷ [];
      reached = subst (Reached m task (under.stations ++ t ∷ [])) (sym followed_so) (next under.reached taken.lowest);
    }

    -- one more is taken, and there are more stations than were taken before
    pub taken_more : Laws m → ZeroLeast m → Workable task → task.network.stations ≤ most_stations → (s'.queue.taken ≡ s.queue.taken + 1) × (s.queue.taken < task.network.stations)
    taken_more laws least workable few =
        let on = next under.reached taken.lowest in
        let before = all_taken laws least workable few under.reached in
        let after = all_taken laws least workable few on in
        let most = at_most_stations laws least workable on in
        let longer = length-append under.stations (t ∷ []) in
        let same_taken : s'.queue.taken ≡ (followed m task s t).queue.taken = ap (λ e. e.queue.taken) followed_so in
        (omega (arith, before, after, longer, same_taken), omega (arith, before, most, longer))

  pub arrives : {s : State K} {q : Meaning} → Underway s → Untaken s.queue q → EndsIn m task s.row q
  arrives {s} under none = record {
    stations = under.stations;
    state = s;
    run = record { reached = under.reached; over = none.nobody };
    row_then = refl;
    queue_then = sym none.same;
  }

-- before any station has a first one
pub no_firsts_yet : (n : ℕ) {fs : List (Option ℕ)} → fs ≡ replicate n None → (let first : ℕ → Option ℕ = λ v. slice_index_or fs v None in let none : ℕ → Option ℕ = λ v. None in first ≡ none)
no_firsts_yet n {fs} none =
    rw none (fun_ext (λ v. ⊎_elim (get_or-replicate n v None None) (λ past. get_or_past (replicate n None) v None (let long : length (replicate {A = Option ℕ} n None) ≡ n = length-replicate n None in omega (arith, long, past))) (cases_lt v n)))

-- who waits is a station
pub lowest_is_station : {q : Meaning} {t : ℕ} → Sound q → Lowest q t → t < q.stations
lowest_is_station {q} {t} sound low = ⊎_elim (λ within. within) (λ past. let none = sound.only_stations_wait t past in absurd (cc (none, low.waits))) (cases_lt t q.stations)
