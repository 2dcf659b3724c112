-- Both tables of calls and replies, as the definitions compute them; and what a replay of such calls leaves.
use Rattle.std.proofs.Common.{◌≡◌, ℕ, ◌+◌, true, ◌==◌, List, [], ◌∷◌, ◌++◌, length, map, drop, replicate, None, Result, Ok, Err, IsOk, OnOk, if◌then◌else◌}
use Rattle.std.proofs.Common.{refl, ap, subst, sym, ◌∙◌, append-nil, arith}
use Rattle.std.specs.Prelude.{⊤}
use Rattle.std.specs.List.{sum_by}
use Rattle.std.proofs.lemmas.Bool.Decides.{nat_tests}
use Rattle.std.proofs.lemmas.List.{length-map, drop_all}
use Rattle.std.proofs.lemmas.List.Sums.{sum_by-cons}
use Rattle.cost.specs.Sum.{sum_kind}
use Rattle.cost.specs.declared.sum.Sum.{Sum}
use Rattle.refusal.specs.First.{told}
use Rattle.refusal.specs.declared.Refusal.{Refusal}
use Rattle.ledger.specs.Ledger.{Ledger}
use Rattle.ledger.specs.Log.{Entry}
use Rattle.ledger.specs.Stands.{Stands}
use Rattle.plan.specs.View.{view}
use Rattle.replay.specs.Entries.{meant, places_of}
use Rattle.replay.specs.Moment.{Moment}
use Rattle.replay.specs.Pool.{replay_refusal}
use Rattle.replay.specs.Replayed.{Replays}
use Rattle.replay.specs.declared.entry.Entry.{Entry as Given}
use Rattle.replay.specs.declared.entry.Answer.{Answer}
use Rattle.tables.specs.Made.{made}
use Rattle.campuses.specs.Asked.{Asked, Reply, reply, spots, asked_of_h, asked_of_j}
use Rattle.campuses.specs.Campuses.{row_h, row_h_of_4, row_j, row_j_of_1, row_j_of_2}
use Rattle.campuses.proofs.Expected.{Hand}
use Rattle.campuses.proofs.Computed.{places_in, same_places, computed, all_sound, answers_by_hand, spots_by_hand}

abbrev pub hand_h : Hand
hand_h = record { rows = λ a. if a == 4 then row_h_of_4 else row_h; failing = record { station = 3; cause = 5 } }

abbrev pub hand_j : Hand
hand_j = record { rows = λ a. if a == 1 then row_j_of_1 else (if a == 2 then row_j_of_2 else row_j); failing = record { station = 0; cause = 0 } }

abbrev call_of : Asked → Entry Sum
call_of x = x.call

abbrev reply_of : Asked → Reply
reply_of x = x.reply

-- a table is what the definitions compute, from some ledger on, where the places hold old
pub record Computes (hand : Hand) (start : Ledger Sum) (xs : List Asked) (old : List ℕ) : Type 0 where
  pub same : computed hand start (map call_of xs) old ≡ xs
  pub all : all_sound hand start (map call_of xs) ≡ true

pub table_h : {places : ℕ} {old : List ℕ} → places ≡ 5 → old ≡ replicate 9 0 → Computes hand_h (made 5 places []) asked_of_h old
table_h {places} {old} room zeros =
    subst (λ z. Computes hand_h (made 5 places []) asked_of_h z) (sym zeros)
    (subst (λ z. Computes hand_h (made 5 z []) asked_of_h (replicate 9 0)) (sym room) (record { same = refl; all = refl }))

pub table_j : {places : ℕ} → places ≡ 10 → Computes hand_j (made 8 places []) asked_of_j []
table_j room = subst (λ z. Computes hand_j (made 8 z []) asked_of_j []) (sym room) (record { same = refl; all = refl })

-- what entries want of the pool is what their calls do
places_wanted : (zs : List (Given Sum)) → sum_by places_of zs ≡ sum_by places_in (map meant zs)
places_wanted [] = refl
places_wanted (z ∷ zs) =
    sum_by-cons places_of z zs ∙ ap (λ n. n + sum_by places_of zs) (sym (same_places z)) ∙ ap (λ n. places_in (meant z) + n) (places_wanted zs)
    ∙ sym (sum_by-cons places_in (meant z) (map meant zs))

-- what holds where a call is accepted holds of one that is
where_ok : {X : Type 0} (r : Result ⊤ Refusal) → IsOk r → OnOk r X → X
where_ok (Ok x) ok on = on
where_ok (Err e) ok on = absurd (cc ok)

-- entries that stand for the calls of a table, and want so many places
module _ {hand : Hand} {start : Ledger Sum} {xs : List Asked} {old : List ℕ} (table : Computes hand start xs old)
    (es : List (Given Sum)) (calls : map meant es ≡ map call_of xs) where
  wanted : sum_by places_of es ≡ sum_by places_in (map call_of xs)
  wanted = places_wanted es ∙ ap (sum_by places_in) calls

  long : length es ≡ length xs
  long = sym (length-map es meant) ∙ ap length calls ∙ length-map xs call_of

  pub replay_accepted : (places answers : ℕ) → places ≡ sum_by places_in (map call_of xs) → answers ≡ length xs → (r : Result ⊤ Refusal)
      → told r ≡ replay_refusal es places answers → IsOk r
  replay_accepted places answers enough room r refused = accepted r (refused ∙ none)
    where
      none : replay_refusal es places answers ≡ None
      none =
          let fit = wanted in
          let as_long = long in
          grind (arith, nat_tests)

      accepted : (r : Result ⊤ Refusal) → told r ≡ None → IsOk r
      accepted (Ok x) tells = refl
      accepted (Err e) tells = absurd (cc tells)

  sound : all_sound hand start (map meant es) ≡ true
  sound = ap (all_sound hand start) calls ∙ table.all

  same : computed hand start (map meant es) old ≡ xs
  same = ap (λ cs. computed hand start cs old) calls ∙ table.same

  module _ (answers : List (Answer Sum)) (new : List ℕ) (before after : Moment Sum)
      (r : Result ⊤ Refusal) (ok : IsOk r) (run : OnOk r (Replays sum_kind es answers old new before after (length es))) (stands : Stands sum_kind start [] (view sum_kind before.plan)) where
    replays : Replays sum_kind es answers old new before after (length es)
    replays = where_ok r ok run

    pub answers_are : length answers ≡ length xs → map reply answers ≡ map reply_of xs
    answers_are room = answers_by_hand hand (replays start [] stands) sound (room ∙ sym long) ∙ ap (map reply_of) same

    pub spots_are : drop (sum_by places_of es) new ≡ drop (sum_by places_of es) old → length old ≡ sum_by places_in (map call_of xs) → new ≡ spots xs
    spots_are past enough =
        let none : drop (sum_by places_of es) old ≡ [] = drop_all (sum_by places_of es) old (omega (arith, enough, wanted)) in
        spots_by_hand hand (replays start [] stands) sound past ∙ ap (λ zs. spots zs ++ drop (sum_by places_of es) old) same
        ∙ ap (λ z. spots xs ++ z) none ∙ append-nil (spots xs)
