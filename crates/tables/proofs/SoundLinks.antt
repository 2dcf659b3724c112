-- The links of a sound file that cost more than zero are as a plan has them; and such links, with costs in the link range, make a sound
-- file.
use Rattle.std.proofs.Common.{◌≡◌, ◌≢◌, ℕ, ◌+◌, ◌<◌, ◌≤◌, List, [], ◌∷◌, ◌++◌, map, length, get_or, None, arith, append_assoc}
use Rattle.std.proofs.lemmas.Bool.Decides.{nat_tests}
use Rattle.std.proofs.lemmas.List.{get_or-append-add, get_or_append_left, length-append, length-map, map_push}
use Rattle.std.proofs.lemmas.List.Elements.{All-cons, All-contains, All-from_recursion, All-head, All-map, All-nil, All-tail, Contains-append_left, Contains-get_or, Contains-push, recursion_from_All}
use Rattle.std.proofs.lemmas.List.Kept.{AllPairs-cons}
use Rattle.std.specs.List.{All, AllPairs, Contains}
use Rattle.cost.specs.Kind.{Kind, Below}
use Rattle.cost.specs.declared.link.Link.{Link}
use Rattle.filekind.specs.Format.{Format}
use Rattle.planfile.specs.Records.{fields_of}
use Rattle.planfile.specs.Sound.{Differs, Laid, Sound}
use Rattle.planfile.specs.Writing.{first_outside, writing_refusal}
use Rattle.planfile.specs.declared.fields.Fields.{Fields}
use Rattle.ledger.specs.Fair.{Fair, OtherPair}

module _ {K : Type 0} (m : Kind K) (f : Format) where
  -- what a link has that is in the link range, and what each link of a sound file has by itself
  abbrev InRange : Link K → Type 0
  InRange l = (f.low ≤ m.rank l.cost) × (m.rank l.cost ≤ f.high)

  record Fit (n : ℕ) (l : Link K) : Type 0 where
    range : InRange l
    from : l.from < n
    to : l.to < n
    to_another : l.from ≢ l.to

  -- no link has a cost outside the link range
  each_in_range : (k : ℕ) (links : List (Link K)) → first_outside f k (map (fields_of m) links) ≡ None → All InRange links
  each_in_range k [] none = All-nil InRange
  each_in_range k (l ∷ links) none =
      All-cons InRange l links (grind (arith, nat_tests)) (each_in_range (k + 1) links (grind (arith, nat_tests)))

  module _ (n : ℕ) where
    each_fits : (earlier : List Fields) (links : List (Link K)) → Laid f n earlier (map (fields_of m) links) → All (Fit n) links
    each_fits earlier [] laid = All-nil (Fit n)
    each_fits earlier (l ∷ links) laid =
        let sound = laid.0 in
        let fit : Fit n l = record { range = (sound.low, sound.high); from = sound.from; to = sound.to; to_another = sound.apart } in
        All-cons (Fit n) l links fit (each_fits (earlier ++ fields_of m l ∷ []) links laid.1)

    -- a later link is of another pair than an earlier record
    later_differ : (x : Fields) (earlier : List Fields) (links : List (Link K)) → Contains earlier x
        → Laid f n earlier (map (fields_of m) links) → All (λ l. Differs x (fields_of m l)) links
    later_differ x earlier [] has laid = All-nil (λ l. Differs x (fields_of m l))
    later_differ x earlier (l ∷ links) has laid =
        let before = λ (y : Fields). Differs y (fields_of m l) in
        All-cons (λ k. Differs x (fields_of m k)) l links
        (All-contains before earlier x (All-from_recursion before earlier laid.0.new) has)
        (later_differ x (earlier ++ fields_of m l ∷ []) links (Contains-append_left earlier (fields_of m l ∷ []) x has) laid.1)

    other_pairs : (earlier : List Fields) (links : List (Link K)) → Laid f n earlier (map (fields_of m) links) → AllPairs OtherPair links
    other_pairs earlier [] laid = λ i j d before within. absurd (omega (arith, within))
    other_pairs earlier (l ∷ links) laid =
        let x = fields_of m l in
        let now = earlier ++ x ∷ [] in
        AllPairs-cons OtherPair l links (later_differ x now links (Contains-push earlier x) laid.1) (other_pairs now links laid.1)

    pub sound_fair : (links : List (Link K)) → Sound f n (map (fields_of m) links) → All (λ l. Below m m.zero l.cost) links
        → Fair m (record { stations = n; links = links })
    sound_fair links sound costly =
        let fits = each_fits [] links sound.laid in
        let fit = λ (l : Link K). All-contains (Fit n) links l fits in
        record {
          between = λ l has. ((fit l has).from, (fit l has).to);
          to_another = λ k d within. (fits k d within).to_another;
          pairs = other_pairs [] links sound.laid;
          none_free = λ l has free. omega (arith, All-contains (λ k. Below m m.zero k.cost) links l costly has, free);
        }

    -- links of different pairs, each of which fits, may follow those before them
    laid_from_fits : (before links : List (Link K)) → AllPairs OtherPair (before ++ links) → All (Fit n) links
        → Laid f n (map (fields_of m) before) (map (fields_of m) links)
    laid_from_fits before [] pairs fits = tt
    laid_from_fits before (l ∷ links) pairs fits =
        let fit = All-head (Fit n) l links fits in
        let differs = λ (y : Fields). Differs y (fields_of m l) in
        let new : All (λ k. differs (fields_of m k)) before = λ k d within.
        rw (get_or_append_left before (l ∷ links) d k within, get_or-append-add before (l ∷ links) 0 d)
        at (pairs k (length before + 0) d (omega (arith, within)) (omega (arith, length-append before (l ∷ links)))) in
        let later = laid_from_fits (before ++ l ∷ []) links (rw append_assoc pairs) (All-tail (Fit n) l links fits) in (
          record {
            low = fit.range.0;
            high = fit.range.1;
            from = fit.from;
            to = fit.to;
            apart = fit.to_another;
            new = recursion_from_All differs (map (fields_of m) before) (All-map differs (fields_of m) before new);
          },
          rw (map_push (fields_of m) before l) at later,
        )

    -- links as a plan has them make a sound file where writing them is not refused
    pub fair_sound : (links : List (Link K)) (room : ℕ) → Fair m (record { stations = n; links = links })
        → writing_refusal m f n links room ≡ None → Sound f n (map (fields_of m) links)
    fair_sound links room fair none =
        let costs : first_outside f 0 (map (fields_of m) links) ≡ None = grind (arith, nat_tests) in
        let few : length links ≤ 4096 = grind (arith, nat_tests) in
        let fits : All (Fit n) links = λ k d within.
        let between = fair.between (get_or links k d) (Contains-get_or links k d within) in
        record { range = each_in_range 0 links costs k d within; from = between.0; to = between.1; to_another = fair.to_another k d within } in
        record {
          some = grind (arith, nat_tests);
          few = grind (arith, nat_tests);
          short = omega (arith, length-map links (fields_of m));
          laid = laid_from_fits [] links fair.pairs fits;
        }
