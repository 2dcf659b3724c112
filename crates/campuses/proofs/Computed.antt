-- The replies by hand to a list of calls, and that a replay of these calls gives them.
--
--   computed hand g es old     the calls es, each beside its reply by hand, from the ledger g on; their places held old
--   all_sound hand g es        each of them is sound by the ledger that the calls before it left
use Rattle.std.proofs.Common.{◌≡◌, ℕ, zero, suc, ◌+◌, ◌<◌, Bool, true, ◌&&◌, List, [], ◌∷◌, ◌++◌, length, map, take, drop}
use Rattle.std.proofs.Common.{Some, Ok, option_map, unwrap_or, append_assoc, refl, ap, subst, sym, ◌∙◌, arith}
use Rattle.std.specs.List.{slice_get, sum_by}
use Rattle.std.proofs.lemmas.Bool.{and_parts}
use Rattle.std.proofs.lemmas.List.{drop-drop, take-append-drop, length-map, ext_get_or}
use Rattle.std.proofs.lemmas.Option.{slice_get-map, slice_get_within, unwrap_or-slice_get}
use Rattle.std.proofs.lemmas.List.Sums.{sum_by-cons}
use Rattle.cost.specs.Sum.{sum_kind}
use Rattle.cost.specs.declared.sum.Sum.{Sum}
use Rattle.routes.specs.Row.{Right}
use Rattle.ledger.specs.Fair.{Fair}
use Rattle.ledger.specs.Holds.{Holds}
use Rattle.ledger.specs.Ledger.{Ledger, network}
use Rattle.ledger.specs.Log.{Entry, lay, lift, work, cost, route, check, entered, reckon}
use Rattle.ledger.specs.Refusals.{lay_refusal, lift_refusal}
use Rattle.plan.specs.View.{view}
use Rattle.replay.specs.Entries.{meant, places_of}
use Rattle.replay.specs.Moment.{Moment}
use Rattle.replay.specs.Pool.{part}
use Rattle.replay.specs.Replayed.{AnsweredAt, Replayed}
use Rattle.replay.specs.Says.{Says}
use Rattle.replay.specs.declared.entry.Entry.{Entry as Given}
use Rattle.replay.specs.declared.entry.Entry.TheVariants.{Lay, Lift, Work, Cost, Route, Check}
use Rattle.replay.specs.declared.entry.Answer.{Answer}
use Rattle.replay.specs.declared.entry.Answer.TheVariants.{Lay as Laid, Lift as Lifted, Work as Worked, Cost as Costed, Route as Routed, Check as Checked}
use Rattle.campuses.specs.Asked.{Asked, Reply, laid, lifted, worked, costed, routed, checked, reply, spots}
use Rattle.campuses.proofs.Expected.{Hand, sound, expected, placed}
use Rattle.campuses.proofs.Settled.{unit_told, work_settled, cost_settled, route_settled, check_settled}

-- lists as long as each other, with the same elements
same_by_get : {X : Type 0} (xs ys : List X) (d : X) → length xs ≡ length ys → ((i : ℕ) → i < length xs → slice_get xs i ≡ slice_get ys i) → xs ≡ ys
same_by_get xs ys d long same =
    ext_get_or d xs ys long
    (λ i within. sym (unwrap_or-slice_get xs i d) ∙ ap (λ o. unwrap_or o d) (same i within) ∙ unwrap_or-slice_get ys i d)

abbrev pub places_in : Entry Sum → ℕ
places_in (lay a b c) = 0
places_in (lift a b) = 0
places_in (work a method) = 0
places_in (cost a b) = 0
places_in (route a b places) = places
places_in (check a xs ys) = 0

pub same_places : (e : Given Sum) → places_in (meant e) ≡ places_of e
same_places (Lay a b c) = refl
same_places (Lift a b) = refl
same_places (Work a method) = refl
same_places (Cost a b) = refl
same_places (Route a b places) = refl
same_places (Check a xs ys) = refl

module _ (hand : Hand) where
  abbrev pub answered : Ledger Sum → Entry Sum → List ℕ → Asked
  answered g e old = record { call = e; reply = expected hand g e old; places = placed hand g e old }

  abbrev pub computed : Ledger Sum → List (Entry Sum) → List ℕ → List Asked
  computed g [] old = []
  computed g (e ∷ es) old = answered g e (take (places_in e) old) ∷ computed (entered sum_kind g e) es (drop (places_in e) old)

  abbrev pub all_sound : Ledger Sum → List (Entry Sum) → Bool
  all_sound g [] = true
  all_sound g (e ∷ es) = sound hand g e && all_sound (entered sum_kind g e) es

  -- one call
  module _ (g : Ledger Sum) (fair : Fair sum_kind (network g)) (before after : Moment Sum)
      (right : (a : ℕ) → a < g.stations → g.marked a ≡ true → Right sum_kind (network g) a ((view sum_kind before.plan).rows a)) where
    settle : (e : Given Sum) (a : Answer Sum) (old new : List ℕ) → sound hand g (meant e) ≡ true → Says sum_kind g before after e a (take (places_of e) old) (take (places_of e) new)
        → (reply a ≡ expected hand g (meant e) (take (places_of e) old)) × (take (places_of e) new ≡ placed hand g (meant e) (take (places_of e) old))
    settle (Lay a b c) (Laid r) old new passes says = (ap laid (unit_told r (lay_refusal sum_kind g a b c) says passes), refl)
    settle (Lift a b) (Lifted r) old new passes says = (ap lifted (unit_told r (lift_refusal g a b) says passes), refl)
    settle (Work a method) (Worked r) old new passes says =
        (ap worked (work_settled hand g fair (view sum_kind before.plan).rows a method ((view sum_kind after.plan).rows a) after.queue r passes says.0 says.1), refl)
    settle (Cost a b) (Costed r) old new passes says =
        (ap costed (cost_settled hand g fair a b ((view sum_kind before.plan).rows a) r passes says), refl)
    settle (Route a b places) (Routed r) old new passes says =
        let is = route_settled hand g fair a b ((view sum_kind before.plan).rows a) (right a) places (take places old) (take places new) r passes says in
        (ap routed is.0, is.1)
    settle (Check a xs ys) (Checked r) old new passes says = (ap checked (check_settled hand g fair a xs.now ys.now r passes says), refl)
    settle e a old new passes says = absurd says

  -- a call by its index
  abbrev at_index : Ledger Sum → List (Given Sum) → ℕ → Ledger Sum
  at_index g es i = reckon sum_kind g (map meant (take i es))

  part_later : (x : Given Sum) (es : List (Given Sum)) (i : ℕ) (e : Given Sum) (pool : List ℕ)
      → part (x ∷ es) (suc i) e pool ≡ part es i e (drop (places_of x) pool)
  part_later x es i e pool =
      ap (λ n. take (places_of e) (drop n pool)) (sum_by-cons places_of x (take i es))
      ∙ ap (take (places_of e)) (sym (drop-drop (sum_by places_of (take i es)) (places_of x) pool))

  computed_at : (es : List (Given Sum)) (g : Ledger Sum) (old : List ℕ) (i : ℕ) (e : Given Sum) → slice_get es i ≡ Some e
      → slice_get (computed g (map meant es) old) i ≡ Some (answered (at_index g es i) (meant e) (part es i e old))
  computed_at [] g old i e is = absurd (cc is)
  computed_at (x ∷ es) g old zero e is =
      let same : x ≡ e = cc is in
      subst (λ z. slice_get (computed g (map meant (x ∷ es)) old) 0 ≡ Some (answered g (meant z) (take (places_of z) old))) same
      (ap (λ n. Some (answered g (meant x) (take n old))) (same_places x))
  computed_at (x ∷ es) g old (suc i) e is =
      computed_at es (entered sum_kind g (meant x)) (drop (places_in (meant x)) old) i e is
      ∙ ap (λ p. Some (answered (at_index (entered sum_kind g (meant x)) es i) (meant e) p))
      (ap (λ n. part es i e (drop n old)) (same_places x) ∙ sym (part_later x es i e old))

  sound_at : (es : List (Given Sum)) (g : Ledger Sum) (i : ℕ) (e : Given Sum) → all_sound g (map meant es) ≡ true → slice_get es i ≡ Some e
      → sound hand (at_index g es i) (meant e) ≡ true
  sound_at [] g i e all is = absurd (cc is)
  sound_at (x ∷ es) g zero e all is =
      let same : x ≡ e = cc is in
      subst (λ z. sound hand g (meant z) ≡ true) same (and_parts (sound hand g (meant x)) (all_sound (entered sum_kind g (meant x)) (map meant es)) all).0
  sound_at (x ∷ es) g (suc i) e all is =
      sound_at es (entered sum_kind g (meant x)) i e (and_parts (sound hand g (meant x)) (all_sound (entered sum_kind g (meant x)) (map meant es)) all).1 is

  computed_long : (es : List (Given Sum)) (g : Ledger Sum) (old : List ℕ) → length (computed g (map meant es) old) ≡ length es
  computed_long [] g old = refl
  computed_long (x ∷ es) g old = ap suc (computed_long es (entered sum_kind g (meant x)) (drop (places_in (meant x)) old))

  -- what stands in the places of all calls, if each one's part is as placed
  spots_at : (es : List (Given Sum)) (g : Ledger Sum) (old new : List ℕ)
      → ((i : ℕ) (e : Given Sum) → slice_get es i ≡ Some e → part es i e new ≡ placed hand (at_index g es i) (meant e) (part es i e old))
      → drop (sum_by places_of es) new ≡ drop (sum_by places_of es) old
      → new ≡ spots (computed g (map meant es) old) ++ drop (sum_by places_of es) old
  spots_at [] g old new parts past = past
  spots_at (x ∷ es) g old new parts past =
      let k : ℕ = places_of x in
      let total : sum_by places_of (x ∷ es) ≡ k + sum_by places_of es = sum_by-cons places_of x es in
      let past_x : drop (sum_by places_of es) (drop k new) ≡ drop (sum_by places_of es) (drop k old) =
      drop-drop (sum_by places_of es) k new ∙ sym (ap (λ n. drop n new) total) ∙ past ∙ ap (λ n. drop n old) total ∙ sym (drop-drop (sum_by places_of es) k old) in
      let rest =
      spots_at es (entered sum_kind g (meant x)) (drop k old) (drop k new)
      (λ i e is. sym (part_later x es i e new) ∙ parts (suc i) e is ∙ ap (placed hand (at_index (entered sum_kind g (meant x)) es i) (meant e)) (part_later x es i e old))
      past_x in
      let back : drop (sum_by places_of es) (drop k old) ≡ drop (sum_by places_of (x ∷ es)) old =
      drop-drop (sum_by places_of es) k old ∙ sym (ap (λ n. drop n old) total) in
      let first : take k new ≡ placed hand g (meant x) (take (places_in (meant x)) old) =
      parts 0 x refl ∙ ap (λ n. placed hand g (meant x) (take n old)) (sym (same_places x)) in
      let later : spots (computed (entered sum_kind g (meant x)) (map meant es) (drop k old)) ≡ spots (computed (entered sum_kind g (meant x)) (map meant es) (drop (places_in (meant x)) old)) =
      ap (λ n. spots (computed (entered sum_kind g (meant x)) (map meant es) (drop n old))) (sym (same_places x)) in
      sym (take-append-drop k new) ∙ ap (λ z. z ++ drop k new) first
      ∙ ap (λ z. placed hand g (meant x) (take (places_in (meant x)) old) ++ z) (rest ∙ ap (λ z. z ++ drop (sum_by places_of es) (drop k old)) later
      ∙ ap (λ z. spots (computed (entered sum_kind g (meant x)) (map meant es) (drop (places_in (meant x)) old)) ++ z) back)
      ∙ sym (append_assoc (placed hand g (meant x) (take (places_in (meant x)) old)) _ (drop (sum_by places_of (x ∷ es)) old))

  -- a replay gives the replies by hand
  module _ {start : Ledger Sum} {es : List (Given Sum)} {answers : List (Answer Sum)} {old new : List ℕ} {before after : Moment Sum}
      (replayed : Replayed sum_kind start [] es answers old new before after (length es)) (all : all_sound start (map meant es) ≡ true) where
    settled_at : (i : ℕ) (b c : Moment Sum) (at : AnsweredAt sum_kind start [] es answers old new i b c)
        → (reply at.answer ≡ expected hand (at_index start es i) (meant at.entry) (part es i at.entry old))
        × (part es i at.entry new ≡ placed hand (at_index start es i) (meant at.entry) (part es i at.entry old))
    settled_at i b c at =
        let holds : Holds sum_kind (view sum_kind b.plan) = at.stands.holds in
        let is : (view sum_kind b.plan).ledger ≡ at_index start es i = at.stands.reckoned in
        let fair = subst (λ z. Fair sum_kind (network z)) is holds.fair in
        let right = subst (λ (z : Ledger Sum). (a : ℕ) → a < z.stations → z.marked a ≡ true → Right sum_kind (network z) a ((view sum_kind b.plan).rows a)) is holds.marked in
        settle (at_index start es i) fair b c right at.entry at.answer
        (drop (sum_by places_of (take i es)) old) (drop (sum_by places_of (take i es)) new)
        (sound_at es start i at.entry all at.entry_there) at.says

    pub answers_by_hand : length answers ≡ length es → map reply answers ≡ map (λ (x : Asked). x.reply) (computed start (map meant es) old)
    answers_by_hand long =
        same_by_get (map reply answers) (map reply_of (computed start (map meant es) old)) (laid (Ok tt))
        (length-map answers reply ∙ long ∙ sym (length-map (computed start (map meant es) old) reply_of ∙ computed_long es start old))
        (λ i within. at_one i (omega (arith, length-map answers reply, long)))
      where
        reply_of : Asked → Reply
        reply_of x = x.reply

        at_one : (i : ℕ) → i < length es → slice_get (map reply answers) i ≡ slice_get (map reply_of (computed start (map meant es) old)) i
        at_one i within =
            let at = replayed.each i within in
            slice_get-map reply answers i ∙ ap (option_map reply) at.answer_there ∙ ap Some (settled_at i _ _ at).0
            ∙ sym (slice_get-map reply_of (computed start (map meant es) old) i ∙ ap (option_map reply_of) (computed_at es start old i at.entry at.entry_there))

    pub spots_by_hand : drop (sum_by places_of es) new ≡ drop (sum_by places_of es) old → new ≡ spots (computed start (map meant es) old) ++ drop (sum_by places_of es) old
    spots_by_hand past = spots_at es start old new parts past
      where
        parts : (i : ℕ) (e : Given Sum) → slice_get es i ≡ Some e → part es i e new ≡ placed hand (at_index start es i) (meant e) (part es i e old)
        parts i e is =
            let at = replayed.each i (slice_get_within es i e is) in
            let same : at.entry ≡ e = cc (at.entry_there, is) in
            subst (λ z. part es i z new ≡ placed hand (at_index start es i) (meant z) (part es i z old)) same (settled_at i _ _ at).1
