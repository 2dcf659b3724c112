-- A replay that is under way.
--
--   Underway .. n used    it has come to entry n, and so many places of the pool are used
use Rattle.std.proofs.Common.{◌≡◌, ℕ, ◌+◌, ◌<◌, ◌≤◌, List, length, get_or, nat_le, Bool, true, take, drop, slice_set}
use Rattle.std.proofs.Common.{refl, sym, ap, subst, ◌∙◌, arith}
use Rattle.std.proofs.lemmas.Bool.{leb-true}
use Rattle.std.proofs.lemmas.List.{length-set}
use Rattle.std.proofs.lemmas.List.Sums.{sum_by_more, sum_by-take-le}
use Rattle.std.proofs.lemmas.Option.{slice_get_read}
use Rattle.std.specs.List.{sum_by}
use Rattle.cost.specs.Kind.{Kind}
use Rattle.ledger.specs.Ledger.{Ledger}
use Rattle.ledger.specs.Log.{Entry, reckon}
use Rattle.ledger.specs.Logged.{ByLog, Logged, Reckoned}
use Rattle.ledger.specs.Stands.{Stands}
use Rattle.plan.specs.View.{view}
use Rattle.tables.specs.Lent.{SameMemory}
use Rattle.tables.proofs.Memory.{memory_itself, memory_twice}
use Rattle.replay.proofs.Memory.{leaves_memory}
use Rattle.replay.specs.Entries.{meant, places_of}
use Rattle.replay.specs.Pool.{part}
use Rattle.replay.specs.Moment.{Moment}
use Rattle.replay.specs.Says.{Says}
use Rattle.replay.specs.Due.{Due}
use Rattle.replay.specs.Leaves.{Leaves}
use Rattle.replay.specs.Replayed.{Replayed, Replays, log_to}
use Rattle.replay.specs.declared.entry.Entry.{Entry as Given}
use Rattle.replay.specs.declared.entry.Answer.{Answer}
use Rattle.replay.proofs.Lists.{get_set_here, past_next, lends, gets_back, lent, back_long, back_below, back_there, back_past}
use Rattle.replay.proofs.Replaying.{replayed_none, replayed_more, log_next}

module _ {K : Type 0} (m : Kind K) (es : List (Given K)) (first answers : List (Answer K)) (old new : List ℕ) where
  pub record Underway (before now : Moment K) (n used : ℕ) : Type 0 where
    pub room : length es ≤ length answers
    pub fits : sum_by places_of es ≤ length new
    pub used_is : used ≡ sum_by places_of (take n es)
    pub replays : Replays m es answers old new before now n
    pub memory : SameMemory before.plan now.plan
    pub pool_past : drop used new ≡ drop used old
    pub answers_past : drop n answers ≡ drop n first

module _ {K : Type 0} {m : Kind K} {es : List (Given K)} {first : List (Answer K)} {old : List ℕ} {before : Moment K} where
  pub begins : {b : Bool} → length es ≤ length first → b ≡ nat_le (sum_by places_of es) (length old) → b ≡ true
      → Underway m es first first old old before before 0 0
  begins room tested fits = record {
    room = room;
    fits = leb-true _ _ (sym tested ∙ fits);
    used_is = refl;
    replays = λ start log stands. replayed_none stands;
    memory = memory_itself before.plan;
    pool_past = refl;
    answers_past = refl;
  }

  module _ {answers : List (Answer K)} {new : List ℕ} {n used : ℕ} {now : Moment K}
      (run : Underway m es first answers old new before now n used) where
    pub ends : {start : Ledger K} {log : List (Entry K)} → n ≡ length es → Stands m start log (view m before.plan)
        → Replayed m start log es answers old new before now (length es)
    ends {start} {log} all stands = subst (Replayed m start log es answers old new before now) all (run.replays start log stands)

    -- the next entry, for which k places are lent to its call
    module _ {k : ℕ} {e : Given K} (within : n < length es) (is : e ≡ get_or es n e) (wants : k ≡ places_of e) where
      used_next : used + k ≡ sum_by places_of (take (n + 1) es)
      used_next = omega (arith, sum_by_more places_of es n e within, ap places_of is, run.used_is)

      fits_next : used + k ≤ length new
      fits_next = omega (arith, used_next, sum_by-take-le places_of es (n + 1), run.fits)

      the_part : (xs : List ℕ) → take k (drop used xs) ≡ part es n e xs
      the_part xs = ap (λ z. take z (drop used xs)) wants ∙ ap (λ z. take (places_of e) (drop z xs)) run.used_is

      module _ (list : List ℕ) (long : length list ≡ length (lends used k new)) where
        -- what is told of the places lent is told of the entry's part of the pool
        of_parts : (Told : List ℕ → List ℕ → Type 0) → Told (lends used k new) list
            → Told (part es n e old) (part es n e (gets_back used k new list))
        of_parts Told says =
            let pool : List ℕ = gets_back used k new list in
            let new_part : list ≡ part es n e pool = sym (back_there new old used k fits_next run.pool_past list long) ∙ the_part pool in
            subst (λ z. Told z (part es n e pool)) (lent new old used k fits_next run.pool_past ∙ the_part old) (subst (Told (lends used k new)) new_part says)

        below : take (sum_by places_of (take n es)) (gets_back used k new list) ≡ take (sum_by places_of (take n es)) new
        below = subst (λ z. take z (gets_back used k new list) ≡ take z new) run.used_is (back_below new old used k fits_next run.pool_past list long)

        pub goes_on : {a : Answer K} {after : Moment K} → Logged m (meant e) (view m now.plan) (view m after.plan)
            → Reckoned m (view m now.plan) (λ g. Says m g now after e a (lends used k new) list)
            → ByLog m (view m now.plan) (λ start log. Due m start log e a (lends used k new)) → Leaves m now after e a
            → Underway m es first (slice_set answers n a) old (gets_back used k new list) before after (n + 1) (used + k)
        goes_on {a} {after} logged says due leaves =
            let there = slice_get_read es _ n e refl within is in
            let room : n < length answers = omega (arith, run.room) in
            record {
              room = subst (λ z. length es ≤ z) (sym (length-set answers n a)) run.room;
              fits = subst (λ z. sum_by places_of es ≤ z) (sym (back_long new old used k fits_next run.pool_past list long)) run.fits;
              used_is = used_next;
              replays = λ start log stands. replayed_more a _ below (run.replays start log stands) (record {
                entry = e;
                answer = a;
                entry_there = there;
                answer_there = get_set_here answers n a room;
                stands = (run.replays start log stands).stands;
                stands_then =
                    subst (λ z. Stands m start z (view m after.plan)) (log_next log es n e there) (logged.stands start _ (run.replays start log stands).stands);
                says = of_parts (Says m (reckon m start (log_to log es n)) now after e a) (says.by_ledger start _ (run.replays start log stands).stands);
                due = of_parts (λ before then. Due m start (log_to log es n) e a before) (due.by_log start _ (run.replays start log stands).stands);
                leaves = leaves;
              });
              memory = memory_twice run.memory (leaves_memory leaves);
              pool_past = back_past new old used k fits_next run.pool_past list long;
              answers_past = past_next answers first n a run.answers_past;
            }
