-- What the links looked at so far tell, with one link more.
use Rattle.std.proofs.Common.{◌≡◌, ℕ, ◌+◌, ◌<◌, ◌≤◌, Bool, true, false, not, ◌&&◌, ◌||◌, ◌==◌, nat_lt, List, [], length, get_or, take, replicate, Option, Some, None, Ok, Err, refl, sym, ap, ◌∙◌, arith}
use Rattle.std.proofs.lemmas.Bool.Decides.{nat_tests}
use Rattle.std.proofs.lemmas.Grind.{common_steps}
use Rattle.std.proofs.lemmas.List.{get_or-replicate}
use Rattle.std.proofs.lemmas.List.Folds.{list_any_at, list_any_more}
use Rattle.std.specs.List.{list_any}
use Rattle.std.specs.Option.{option_map_or}
use Rattle.cost.specs.Kind.{Kind}
use Rattle.cost.specs.declared.link.Link.{Link}
use Rattle.refusal.specs.declared.Failing.{Failing}
use Rattle.routes.specs.Fails.{loose, undercut, rank_at, rank_over}
use Rattle.routes.specs.Network.{Network}
use Rattle.routes.specs.Row.{Row}
use Rattle.ledger.specs.CheckAnswer.{Named}
use Rattle.rowcheck.specs.Links.{Looked, led, link_answer, marked}

-- links between n stations
abbrev pub laid : {K : Type 0} → ℕ → List (Link K) → Network K
laid n links = record { stations = n; links = links }

module _ {K : Type 0} (m : Kind K) (n A : ℕ) (row : Row K) where
  abbrev over : Link K → ℕ
  over l = rank_over m (laid n []) A row l

  abbrev at : ℕ → ℕ
  at B = rank_at m (laid n []) A row B

  -- no link yet
  led_none : (B : ℕ) (o : Option ℕ) → led m (laid n []) A row B o ≡ false
  led_none B None = refl
  led_none B (Some p) = refl

  loose_none : (B : ℕ) (o : Option ℕ) → loose m (laid n []) A row B o ≡ false
  loose_none B None = refl
  loose_none B (Some p) = refl

  pub looked_none : (k : ℕ) → n ≤ k → Looked m (laid n []) A row (replicate k false)
  looked_none k few = record {
    none_undercut = λ B h. refl;
    none_loose = λ B h. loose_none B (row.predecessors B);
    tells = λ B h. get_or-replicate k B false false (omega arith) ∙ sym (led_none B (row.predecessors B));
  }

  -- the link l at i
  module _ (links : List (Link K)) (i : ℕ) (l : Link K) (within : i < length links) (is : l ≡ get_or links i l) where
    -- what it adds to each test
    more : (test : Link K → Bool) → list_any test (take (i + 1) links) ≡ (list_any test (take i links) || test l)
    more test = list_any_more test links i l within ∙ ap (λ x. list_any test (take i links) || test x) (sym is)

    undercut_more : (B : ℕ) → undercut m (laid n (take (i + 1) links)) A row B
        ≡ (undercut m (laid n (take i links)) A row B || (l.to == B && nat_lt (over l) (at B)))
    undercut_more B = more (λ k. k.to == B && nat_lt (over k) (at B))

    loose_more : (B : ℕ) (o : Option ℕ) → loose m (laid n (take (i + 1) links)) A row B o
        ≡ (loose m (laid n (take i links)) A row B o || ((option_map_or (λ p. l.from == p) o false && l.to == B) && not (over l == at B)))
    loose_more B None = refl
    loose_more B (Some p) = more (λ k. (k.from == p && k.to == B) && not (over k == at B))

    led_more : (B : ℕ) (o : Option ℕ) → led m (laid n (take (i + 1) links)) A row B o
        ≡ (led m (laid n (take i links)) A row B o || (option_map_or (λ p. l.from == p) o false && l.to == B))
    led_more B None = refl
    led_more B (Some p) = more (λ k. k.from == p && k.to == B)

    -- where no station fails for it
    pub looked_more : (found found' : List Bool) → n ≤ length found → Looked m (laid n (take i links)) A row found
        → Ok tt ≡ link_answer m (laid n links) A row l → found' ≡ marked m (laid n links) A row l found → Looked m (laid n (take (i + 1) links)) A row found'
    looked_more found found' long so_far passes after = record {
      none_undercut = λ B h. let add = undercut_more B in let none = so_far.none_undercut B h in grind (arith, nat_tests);
      none_loose = λ B h. let add = loose_more B (row.predecessors B) in let none = so_far.none_loose B h in grind (arith, nat_tests);
      tells = λ B h. let add = led_more B (row.predecessors B) in let told = so_far.tells B h in grind (arith, nat_tests, common_steps);
    }

    -- where one does, it fails for all links
    any : (test : Link K → Bool) → test l ≡ true → list_any test links ≡ true
    any test e = list_any_at test links i l within (ap test (sym is) ∙ e)

    loose_any : (o : Option ℕ) → (option_map_or (λ p. l.from == p) o false && not (over l == at l.to)) ≡ true → loose m (laid n links) A row l.to o ≡ true
    loose_any None e = absurd cc
    loose_any (Some p) e = any (λ k. (k.from == p && k.to == l.to) && not (over k == at l.to)) (grind (arith, nat_tests))

    pub named_link : (f : Failing) → Err f ≡ link_answer m (laid n links) A row l → Named m (laid n links) A row f
    named_link f e =
        let below = any (λ k. k.to == l.to && nat_lt (over k) (at l.to)) in
        let apart = loose_any (row.predecessors l.to) in
        record { station = grind (arith, nat_tests); fails = grind (arith, nat_tests) }

-- what `test_links` wants
pub ruleset looking = (common_steps, looked_more, named_link)
