-- Links stay as a plan has them when one is laid that is not refused, and when one is taken out.
use Rattle.std.proofs.Common.{◌≡◌, ◌≢◌, ℕ, ◌<◌, suc, List, [], ◌∷◌, get_or, Bool, true, false, None, ⊎_elim, if◌then◌else◌, sym, ap, ◌∙◌, arith}
use Rattle.std.proofs.lemmas.Bool.{cases_order, true≢false}
use Rattle.std.proofs.lemmas.Bool.Decides.{nat_tests}
use Rattle.std.proofs.lemmas.List.{get_or_default}
use Rattle.std.proofs.lemmas.List.Elements.{All-contains, All-push, Contains-get_or, Contains-push_cases}
use Rattle.std.proofs.lemmas.List.Kept.{AllPairs-cons}
use Rattle.std.proofs.lemmas.List.Quantifiers.{all_pairs_push}
use Rattle.std.specs.List.{All, AllPairs, Contains}
use Rattle.cost.specs.Kind.{Kind, Same}
use Rattle.cost.specs.declared.link.Link.{Link}
use Rattle.routes.specs.Network.{Network, OnePerPair, leads}
use Rattle.routes.proofs.Members.{in_later, in_first, in_cases, any_from_in}
use Rattle.ledger.specs.Ledger.{Ledger, network, has_link}
use Rattle.ledger.specs.Refusals.{lay_refusal}
use Rattle.ledger.specs.After.{without, after_lay, after_lift}
use Rattle.ledger.specs.Fair.{Fair, OtherPair}

-- what there is to a link that is not refused
pub record Layable {K : Type 0} (m : Kind K) (g : Ledger K) (a b : ℕ) (c : K) : Type 0 where
  pub from_there : a < g.stations
  pub to_there : b < g.stations
  pub to_another : a ≢ b
  pub not_free : Same m c m.zero → ⊥
  pub first_of_pair : has_link g a b ≡ false

module _ {K : Type 0} where
  -- two links of one pair are at one place
  pub one_per_pair : (net : Network K) → AllPairs OtherPair net.links → OnePerPair net
  one_per_pair net pairs k l has_k has_l from to =
      let there : get_or net.links has_l.0 k ≡ l = get_or_default net.links has_l.0 k l has_l.1 ∙ has_l.2 in
      ⊎_elim (λ same. sym has_k.2 ∙ ap (λ i. get_or net.links i k) same ∙ there)
      (⊎_elim
      (λ before. absurd ((rw (has_k.2, there) at (pairs has_k.0 has_l.0 k before has_l.1)) from to))
      (λ after. absurd ((rw (has_k.2, there) at (pairs has_l.0 has_k.0 k after has_k.1)) (sym from) (sym to))))
      (cases_order has_k.0 has_l.0)

  -- no link that is laid leads from a to b
  no_other : (g : Ledger K) (a b : ℕ) → has_link g a b ≡ false → (k : Link K) → Contains g.links k → k.from ≡ a → k.to ≡ b → ⊥
  no_other g a b none k laid from to =
      let passes : leads a b k ≡ true = grind (arith, nat_tests) in
      true≢false (sym (any_from_in (leads a b) g.links k laid passes) ∙ none)

  module _ (a b : ℕ) where
    -- what is still laid was laid
    laid_before : (ls : List (Link K)) (k : Link K) → Contains (without a b ls) k → Contains ls k
    laid_before [] k has = has
    laid_before (l ∷ ls) k has = still (leads a b l) (λ later. in_later l ls k (laid_before ls k later)) has
      where
        still : (one : Bool) → (Contains (without a b ls) k → Contains (l ∷ ls) k)
            → Contains (if one then ls else (l ∷ without a b ls)) k → Contains (l ∷ ls) k
        still true rest has = in_later l ls k has
        still false rest has = ⊎_elim (λ e. rw e (in_first l ls)) rest (in_cases l (without a b ls) k has)

    -- what holds of all that were laid holds of those that still are
    all_without : (P : Link K → Type 0) (ls : List (Link K)) → All P ls → All P (without a b ls)
    all_without P ls all k d within =
        let l = get_or (without a b ls) k d in
        All-contains P ls l all (laid_before ls l (Contains-get_or (without a b ls) k d within))

    pairs_without : (ls : List (Link K)) → AllPairs OtherPair ls → AllPairs OtherPair (without a b ls)
    pairs_without [] pairs = pairs
    pairs_without (l ∷ ls) pairs =
        let later : AllPairs OtherPair ls = λ i j d before within.
        pairs (suc i) (suc j) d (omega (arith, before)) (omega (arith, within)) in
        let first : All (OtherPair l) ls = λ k d within. pairs 0 (suc k) d (omega arith) (omega (arith, within)) in
        elim (leads a b l) as (λ one. AllPairs OtherPair (if one then ls else (l ∷ without a b ls))) [
          | true ↦ later
          | false ↦ AllPairs-cons OtherPair l (without a b ls) (all_without (OtherPair l) ls first) (pairs_without ls later)
        ]

  module _ (m : Kind K) (g : Ledger K) where
    pub layable : (a b : ℕ) (c : K) → lay_refusal m g a b c ≡ None → Layable m g a b c
    layable a b c none = record {
      from_there = grind (arith, nat_tests);
      to_there = grind (arith, nat_tests);
      to_another = grind (arith, nat_tests);
      not_free = λ free. grind (arith, nat_tests);
      first_of_pair = grind (arith, nat_tests);
    }

    pub fair_laid : (a b : ℕ) (c : K) → Fair m (network g) → lay_refusal m g a b c ≡ None → Fair m (network (after_lay g a b c))
    fair_laid a b c fair none =
        let l : Layable m g a b c = layable a b c none in
        let new : Link K = record { from = a; to = b; cost = c } in
        let old = g.links in
        record {
          between = λ k laid. ⊎_elim (fair.between k) (λ e. rw (← e) (l.from_there, l.to_there)) (Contains-push_cases old new k laid);
          to_another = All-push (λ k. k.from ≢ k.to) old new fair.to_another l.to_another;
          pairs = all_pairs_push OtherPair old new fair.pairs
              (λ k d within. no_other g a b l.first_of_pair (get_or old k d) (Contains-get_or old k d within));
          none_free = λ k laid. ⊎_elim (fair.none_free k) (λ e. rw (← e) l.not_free) (Contains-push_cases old new k laid);
        }

    pub fair_lifted : (a b : ℕ) → Fair m (network g) → Fair m (network (after_lift g a b))
    fair_lifted a b fair = record {
      between = λ k laid. fair.between k (laid_before a b g.links k laid);
      to_another = all_without a b (λ k. k.from ≢ k.to) g.links fair.to_another;
      pairs = pairs_without a b g.links fair.pairs;
      none_free = λ k laid. fair.none_free k (laid_before a b g.links k laid);
    }

-- what the contract wants
pub ruleset kept_fair = (fair_laid, fair_lifted)
