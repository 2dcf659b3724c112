-- What a replay leaves as it is.
use Rattle.std.proofs.Common.{◌≡◌, ℕ, zero, suc, ◌*◌, ◌<◌, ◌≤◌, List, Bool, true, false, Some, None, Ok, Err, length, drop, refl, sym, ap, subst, ◌∙◌, arith, add-one}
use Rattle.std.proofs.lemmas.Bool.Decides.{nat_tests}
use Rattle.std.specs.List.{slice_get}
use Rattle.cost.specs.Kind.{Kind}
use Rattle.routes.specs.declared.method.Method.{Method}
use Rattle.ledger.specs.Ledger.{Ledger}
use Rattle.ledger.specs.Log.{Entry}
use Rattle.ledger.specs.Refusals.{work_refusal}
use Rattle.tables.specs.declared.state.Tables.{Tables}
use Rattle.tables.specs.Relinked.{Relinked}
use Rattle.tables.specs.Working.{RowFilled}
use Rattle.tables.proofs.Unworking.{past_kept}
use Rattle.plan.specs.View.{view}
use Rattle.replay.specs.Keeping.{Asks, Past, Unqueued}
use Rattle.replay.specs.Leaves.{Leaves, accepted}
use Rattle.replay.specs.Moment.{Moment}
use Rattle.replay.specs.Replayed.{Replayed}
use Rattle.replay.specs.Says.{Says}
use Rattle.replay.specs.declared.entry.Answer.{Answer}
use Rattle.replay.specs.declared.entry.Answer.TheVariants.{Lay as Laid, Lift as Lifted, Work as Worked, Cost as Costed, Route as Routed, Check as Checked}
use Rattle.replay.specs.declared.entry.Entry.{Entry as Given}
use Rattle.replay.specs.declared.entry.Entry.TheVariants.{Lay, Lift, Work, Cost, Route, Check}

-- by a test
by_test : {P : Type 0} (test : Bool) → (test ≡ true → P) → (test ≡ false → P) → P
by_test true on off = on refl
by_test false on off = off refl

module _ {K : Type 0} where
  past_itself : (t : Tables K) → Past t t
  past_itself t = record { stations = refl; places = refl; costs = refl; predecessors = refl }

  past_twice : {t t' t'' : Tables K} → Past t t' → Past t' t'' → Past t t''
  past_twice {t} {t'} {t''} first next = record {
    stations = next.stations ∙ first.stations;
    places = next.places ∙ first.places;
    costs = subst (λ n. drop (n * n) t''.costs.now ≡ drop (n * n) t'.costs.now) first.stations next.costs ∙ first.costs;
    predecessors =
        subst (λ n. drop (n * n) t''.predecessors.now ≡ drop (n * n) t'.predecessors.now) first.stations next.predecessors ∙ first.predecessors;
  }

  past_relinked : {m : Kind K} {g : Ledger K} {t t' : Tables K} → Relinked m g t t' → g.stations ≡ t.stations → g.places ≡ length t.list.now → Past t t'
  past_relinked left stations places = record {
    stations = ap (λ (g : Ledger K). g.stations) left.ledger ∙ stations;
    places = ap (λ (g : Ledger K). g.places) left.ledger ∙ places;
    costs = left.rows.costs_past;
    predecessors = left.rows.predecessors_past;
  }

  past_filled : {a : ℕ} {t t' : Tables K} → RowFilled a t t' → a < t.stations → Past t t'
  past_filled {a} {t} {t'} left there = record {
    stations = left.stations;
    places = ap length left.list;
    costs = past_kept t.stations a t.costs.now t'.costs.now left.costs there;
    predecessors = past_kept t.stations a t.predecessors.now t'.predecessors.now left.predecessors there;
  }

  kept_queue : {before after : Moment K} → after ≡ before → after.queue ≡ before.queue
  kept_queue is = ap (λ (z : Moment K). z.queue) is

  past_same : {before after : Moment K} → after ≡ before → Past before.plan after.plan
  past_same {before} is = subst (λ (z : Moment K). Past before.plan z.plan) (sym is) (past_itself before.plan)

module _ {K : Type 0} {m : Kind K} where
  module _ {before after : Moment K} {a : Answer K} where
    -- an entry that asks or tests
    asked : (e : Given K) → Asks e → Leaves m before after e a → after ≡ before
    asked (Lay x y c) none leaves = absurd none
    asked (Lift x y) none leaves = absurd none
    asked (Work x method) none leaves = absurd none
    asked (Cost x y) some leaves = by_test (accepted a) leaves.changes leaves.kept
    asked (Route x y places) some leaves = by_test (accepted a) leaves.changes leaves.kept
    asked (Check x costs predecessors) some leaves = by_test (accepted a) leaves.changes leaves.kept

    -- an entry that works no row
    unqueued : (e : Given K) → Unqueued e → Leaves m before after e a → after.queue ≡ before.queue
    unqueued (Lay x y c) some leaves = by_test (accepted a) (λ on. (leaves.changes on).1) (λ off. kept_queue (leaves.kept off))
    unqueued (Lift x y) some leaves = by_test (accepted a) (λ on. (leaves.changes on).1) (λ off. kept_queue (leaves.kept off))
    unqueued (Work x method) none leaves = absurd none
    unqueued (Cost x y) some leaves = kept_queue (asked (Cost x y) tt leaves)
    unqueued (Route x y places) some leaves = kept_queue (asked (Route x y places) tt leaves)
    unqueued (Check x costs predecessors) some leaves = kept_queue (asked (Check x costs predecessors) tt leaves)

module _ {K : Type 0} (m : Kind K) (g : Ledger K) (before after : Moment K) (old new : List ℕ) (same : (view m before.plan).ledger ≡ g) where
  -- a row that was worked is that of a station
  there : (x : ℕ) (method : Method) (a : Answer K) → Says m g before after (Work x method) a old new → accepted a ≡ true → x < before.plan.stations
  there x method (Worked (Ok taken)) says on =
      let none : None ≡ work_refusal g x = says.0.refusal in
      let stations : before.plan.stations ≡ g.stations = ap (λ (g : Ledger K). g.stations) same in
      grind (arith, nat_tests)
  there x method (Worked (Err why)) says on = absurd (cc on)
  there x method (Laid r) says on = absurd says
  there x method (Lifted r) says on = absurd says
  there x method (Costed r) says on = absurd says
  there x method (Routed r) says on = absurd says
  there x method (Checked r) says on = absurd says

  past_of : (e : Given K) (a : Answer K) → Says m g before after e a old new → Leaves m before after e a → Past before.plan after.plan
  past_of (Lay x y c) a says leaves =
      by_test (accepted a) (λ on. past_relinked (leaves.changes on).0 refl refl) (λ off. past_same (leaves.kept off))
  past_of (Lift x y) a says leaves =
      by_test (accepted a) (λ on. past_relinked (leaves.changes on).0 refl refl) (λ off. past_same (leaves.kept off))
  past_of (Work x method) a says leaves =
      by_test (accepted a) (λ on. past_filled (leaves.changes on) (there x method a says on)) (λ off. past_same (leaves.kept off))
  past_of (Cost x y) a says leaves = past_same (asked (Cost x y) tt leaves)
  past_of (Route x y places) a says leaves = past_same (asked (Route x y places) tt leaves)
  past_of (Check x costs predecessors) a says leaves = past_same (asked (Check x costs predecessors) tt leaves)

module _ {K : Type 0} {m : Kind K} where
  module _ {start : Ledger K} {log : List (Entry K)} {es : List (Given K)} {answers : List (Answer K)} {old new : List ℕ} {before after : Moment K} {n : ℕ}
      (run : Replayed m start log es answers old new before after n) where
    -- so it is at each moment
    asked_up_to : ((i : ℕ) (e : Given K) → slice_get es i ≡ Some e → Asks e) → (i : ℕ) → i ≤ n → run.moments i ≡ before
    asked_up_to asks zero under = run.first
    asked_up_to asks (suc i) under =
        let here = run.each i (omega (arith, under)) in
        rw add-one at (asked here.entry (asks i here.entry here.entry_there) here.leaves) ∙ asked_up_to asks i (omega (arith, under))

    queue_up_to : ((i : ℕ) (e : Given K) → slice_get es i ≡ Some e → Unqueued e) → (i : ℕ) → i ≤ n → (run.moments i).queue ≡ before.queue
    queue_up_to idle zero under = ap (λ (z : Moment K). z.queue) run.first
    queue_up_to idle (suc i) under =
        let here = run.each i (omega (arith, under)) in
        rw add-one at (unqueued here.entry (idle i here.entry here.entry_there) here.leaves) ∙ queue_up_to idle i (omega (arith, under))

    past_up_to : (i : ℕ) → i ≤ n → Past before.plan (run.moments i).plan
    past_up_to zero under = subst (λ (z : Moment K). Past before.plan z.plan) (sym run.first) (past_itself before.plan)
    past_up_to (suc i) under =
        let here = run.each i (omega (arith, under)) in
        past_twice (past_up_to i (omega (arith, under))) (rw add-one at (past_of m _ _ _ _ _ here.stands.reckoned here.entry here.answer here.says here.leaves))

    pub asking_kept : ((i : ℕ) (e : Given K) → slice_get es i ≡ Some e → Asks e) → after ≡ before
    asking_kept asks = sym run.last ∙ asked_up_to asks n (omega arith)

    pub queue_kept : ((i : ℕ) (e : Given K) → slice_get es i ≡ Some e → Unqueued e) → after.queue ≡ before.queue
    queue_kept idle = sym (ap (λ (z : Moment K). z.queue) run.last) ∙ queue_up_to idle n (omega arith)

    pub past_all : Past before.plan after.plan
    past_all = subst (λ (z : Moment K). Past before.plan z.plan) run.last (past_up_to n (omega arith))

-- what the contract wants
pub ruleset kept = (asking_kept, queue_kept, past_all)
