-- Entries that are replayed: none, and one more.
use Rattle.std.proofs.Common.{◌≡◌, ◌≢◌, ℕ, ◌+◌, ◌<◌, List, [], ◌∷◌, ◌++◌, Some, map, take, slice_set, if◌then◌else◌}
use Rattle.std.proofs.Common.{refl, sym, ap, subst, ◌∙◌, append_assoc, append-nil, arith}
use Rattle.std.proofs.lemmas.Bool.{eq-eqb, ne_eqb}
use Rattle.std.proofs.lemmas.List.{map_more}
use Rattle.std.proofs.lemmas.Option.{slice_get_within, get_or_from_slice_get}
use Rattle.std.specs.List.{slice_get, sum_by}
use borrow.Author.Count.{below_more}
use Rattle.cost.specs.Kind.{Kind}
use Rattle.routes.specs.State.{written}
use Rattle.ledger.specs.Ledger.{Ledger}
use Rattle.ledger.specs.Log.{Entry, reckon}
use Rattle.ledger.specs.Stands.{Stands}
use Rattle.plan.specs.View.{view}
use Rattle.replay.specs.Entries.{meant, places_of}
use Rattle.replay.specs.Pool.{part}
use Rattle.replay.specs.Moment.{Moment}
use Rattle.replay.specs.Says.{Says}
use Rattle.replay.specs.Replayed.{AnsweredAt, Replayed, log_to}
use Rattle.replay.specs.declared.entry.Entry.{Entry as Given}
use Rattle.replay.specs.declared.entry.Answer.{Answer}
use Rattle.replay.proofs.Lists.{get_set_below, part_stays, sum_below}

module _ {X : Type 0} (f : ℕ → X) (v : ℕ) (x : X) where
  written_here : written f v x v ≡ x
  written_here = ap (λ b. if b then x else f v) (eq-eqb v v refl)

  written_other : (u : ℕ) → u ≢ v → written f v x u ≡ f u
  written_other u other = ap (λ b. if b then x else f u) (ne_eqb u v other)

module _ {K : Type 0} where
  -- the log with one entry more
  pub log_next : (log : List (Entry K)) (es : List (Given K)) (i : ℕ) (e : Given K) → slice_get es i ≡ Some e
      → log_to log es i ++ meant e ∷ [] ≡ log_to log es (i + 1)
  log_next log es i e there =
      let read : meant e ∷ [] ≡ meant _ ∷ [] = ap (λ z. meant z ∷ []) (sym (get_or_from_slice_get es i e e there)) in
      append_assoc log (map meant (take i es)) (meant e ∷ [])
      ∙ ap (λ z. log ++ z) (ap (λ z. map meant (take i es) ++ z) read ∙ sym (map_more meant es i e (slice_get_within es i e there)))

module _ {K : Type 0} {m : Kind K} {start : Ledger K} {log : List (Entry K)}
    {es : List (Given K)} {answers : List (Answer K)} {old new : List ℕ} where
  pub replayed_none : {before : Moment K} → Stands m start log (view m before.plan) → Replayed m start log es answers old new before before 0
  replayed_none {before} stands = record {
    moments = λ i. before;
    first = refl;
    last = refl;
    each = λ i below. absurd (omega arith);
    stands = subst (λ z. Stands m start z (view m before.plan)) (sym (append-nil log)) stands;
  }

  at_same : {i : ℕ} {b b' c c' : Moment K} → b' ≡ b → c' ≡ c → AnsweredAt m start log es answers old new i b c
      → AnsweredAt m start log es answers old new i b' c'
  at_same {i} {b} {b'} {c} {c'} p q at =
      let At : Moment K → Moment K → Type 0 = AnsweredAt m start log es answers old new i in
      subst (λ z. At z c') (sym p) (subst (At b) (sym q) at)

  -- what was answered stays so, where the next answer and the next part of the pool are written
  answered_stays : {i n : ℕ} {b c : Moment K} (a : Answer K) (pool : List ℕ) → i < n
      → take (sum_by places_of (take n es)) pool ≡ take (sum_by places_of (take n es)) new
      → AnsweredAt m start log es answers old new i b c → AnsweredAt m start log es (slice_set answers n a) old pool i b c
  answered_stays {i} {n} {b} {c} a pool below same at =
      let within = sum_below places_of es i n at.entry below at.entry_there in
      let Told : List ℕ → Type 0 = Says m (reckon m start (log_to log es i)) b c at.entry at.answer (part es i at.entry old) in
      record {
        entry = at.entry;
        answer = at.answer;
        entry_there = at.entry_there;
        answer_there = get_set_below answers n i at.answer a below at.answer_there;
        stands = at.stands;
        stands_then = at.stands_then;
        says = subst Told (sym (part_stays new pool _ _ (places_of at.entry) within same)) at.says;
        due = at.due;
        leaves = at.leaves;
      }

module _ {K : Type 0} {m : Kind K} {start : Ledger K} {log : List (Entry K)}
    {es : List (Given K)} {answers : List (Answer K)} {old new : List ℕ} where
  -- with the next answer, and the next part of the pool
  pub replayed_more : {before now after : Moment K} {n : ℕ} (a : Answer K) (pool : List ℕ)
      → take (sum_by places_of (take n es)) pool ≡ take (sum_by places_of (take n es)) new
      → Replayed m start log es answers old new before now n
      → AnsweredAt m start log es (slice_set answers n a) old pool n now after
      → Replayed m start log es (slice_set answers n a) old pool before after (n + 1)
  replayed_more {before} {now} {after} {n} a pool same done here =
      let moments : ℕ → Moment K = written done.moments (n + 1) after in
      let kept : (i : ℕ) → i < n + 1 → moments i ≡ done.moments i = λ i below. written_other done.moments (n + 1) after i (λ is. absurd (omega arith)) in
      let last : moments (n + 1) ≡ after = written_here done.moments (n + 1) after in
      record {
        moments = moments;
        first = kept 0 (omega arith) ∙ done.first;
        last = last;
        each = below_more (λ i. AnsweredAt m start log es (slice_set answers n a) old pool i (moments i) (moments (i + 1))) n
            (λ i below. at_same (kept i (omega arith)) (kept (i + 1) (omega arith)) (answered_stays a pool below same (done.each i below)))
            (at_same (kept n (omega arith) ∙ done.last) last here);
        stands = here.stands_then;
      }
