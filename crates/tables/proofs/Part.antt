-- Following a station's part of the index, link after link: what is left to offer ends where the whole does.
use Rattle.std.specs.Prelude.{◌≡◌, ℕ, suc, ◌+◌, ◌-◌, ◌<◌, ◌≤◌, Bool, true, false, List, ◌∷◌, Option, length, map, slice_index_or, if◌then◌else◌}
use Rattle.std.specs.List.{filter, range_with_len}
use Rattle.std.proofs.Common.{◌∙◌, arith, sym, ap}
use Rattle.cost.specs.Kind.{Kind}
use Rattle.cost.specs.declared.link.Link.{Link}
use Rattle.routes.specs.State.{State}
use Rattle.routes.specs.Offers.{Offer, offered, offered_all}
use Rattle.departures.specs.Index.{begin_of, place_at, Indexed}
use Rattle.departures.specs.declared.Departures.{Departures}
use Rattle.departures.proofs.Parts.{links_by_part}
use Rattle.tables.specs.Following.{over, over_link}

-- what is read past the end of a list
pub no_link : {K : Type 0} → Kind K → Link K
no_link m = record { from = 0; to = 0; cost = m.far }

module _ {K : Type 0} (m : Kind K) (label : K) (t : ℕ) (first : ℕ → Option ℕ) (pick : Link K → Bool) (links : List (Link K)) (d : Departures) where
  -- the link at an index, and what the links of some indices offer
  abbrev pub link_at : ℕ → Link K
  link_at i = slice_index_or links (place_at d i) (no_link m)

  abbrev pub offers_at : List ℕ → List (Offer K)
  offers_at is = map (over_link m label t first) (filter pick (map link_at is))

  -- s is the state in which the links before index i have been offered, s0 that before any
  pub record Parting (i : ℕ) (s0 s : State K) : Type 0 where
    pub rest : offered_all m s (offers_at (range_with_len i (begin_of d (t + 1) - i))) ≡ offered_all m s0 (over m label t first pick links)

  -- one link more was looked at
  offered_more : (b : Bool) (s s' : State K) (l : Link K) (rest : List (Link K)) → s' ≡ (if b then offered m s (over_link m label t first l) else s)
      → offered_all m s' (map (over_link m label t first) rest) ≡ offered_all m s (map (over_link m label t first) (if b then l ∷ rest else rest))
  offered_more true s s' l rest step = ap (λ e. offered_all m e (map (over_link m label t first) rest)) step
  offered_more false s s' l rest step = ap (λ e. offered_all m e (map (over_link m label t first) rest)) step

  pub part_begins : Indexed links d → length links ≤ 4096 → t < 256 → (s : State K) → Parting (begin_of d t) s s
  part_begins index short few s =
      record { rest = ap (λ ls. offered_all m s (map (over_link m label t first) ls)) (sym (links_by_part index short t few pick (no_link m))) }

  pub part_goes_on : {i : ℕ} {s0 s s' : State K} {l : Link K} → i < begin_of d (t + 1) → Parting i s0 s → l ≡ link_at i
      → s' ≡ (if pick l then offered m s (over_link m label t first l) else s) → Parting (i + 1) s0 s'
  part_goes_on {i} {s0} {s} {s'} {l} before so_far is step =
      let left : begin_of d (t + 1) - i ≡ suc (begin_of d (t + 1) - (i + 1)) = omega arith in
      record {
        rest = offered_more (pick (link_at i)) s s' (link_at i) (filter pick (map link_at (range_with_len (i + 1) (begin_of d (t + 1) - (i + 1))))) (rw is at step)
            ∙ ap (λ n. offered_all m s (offers_at (range_with_len i n))) (sym left)
            ∙ so_far.rest;
      }

  pub part_ends : (i : ℕ) (s0 s : State K) → begin_of d (t + 1) ≤ i → Parting i s0 s → s ≡ offered_all m s0 (over m label t first pick links)
  part_ends i s0 s past so_far =
      let none : begin_of d (t + 1) - i ≡ 0 = omega arith in
      ap (λ n. offered_all m s (offers_at (range_with_len i n))) (sym none) ∙ so_far.rest
