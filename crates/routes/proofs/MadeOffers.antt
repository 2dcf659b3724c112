-- The offers that a station makes, one by one: each over a link that leaves it, or for a station along its row.
use Rattle.std.proofs.Common.{◌≡◌, ℕ, ◌<◌, Bool, true, false, List, Option, Some, None, subst, ◌==◌, ◌&&◌}
use Rattle.std.specs.List.{Contains, range_with_len}
use Rattle.std.proofs.lemmas.Bool.{and_parts, and_from, eqb-true, eq-eqb}
use Rattle.cost.specs.Kind.{Kind}
use Rattle.cost.specs.declared.link.Link.{Link}
use Rattle.routes.specs.Network.{Network}
use Rattle.routes.specs.Row.{Row}
use Rattle.routes.specs.State.{State}
use Rattle.routes.specs.Offers.{Offer}
use Rattle.routes.specs.Methods.{over_links, links_from, along_row}
use Rattle.routes.proofs.Members.{in_map, in_from_map, in_filter, in_from_filter, in_range, in_from_range}

module _ {K : Type 0} (m : Kind K) (s : State K) (t : ℕ) where
  -- over a link that is picked
  module _ (net : Network K) (first : ℕ → Option ℕ) (pick : Link K → Bool) where
    abbrev pub over : Link K → Offer K
    over l = record { station = l.to; cost = m.joined (s.row.costs t) l.cost; predecessor = Some t; first = first l.to; puts = true }

    abbrev pub all_over : List (Offer K)
    all_over = over_links m s t first (links_from net t pick)

    pub link_of : (o : Offer K) → Contains all_over o → (l : Link K) × Contains net.links l × (l.from ≡ t) × (over l ≡ o)
    link_of o has =
        let l = in_from_map over (links_from net t pick) o has in
        let f = in_from_filter (λ l. l.from == t && pick l) net.links l.0 l.1 in
        (l.0, f.0, eqb-true l.0.from t (and_parts (l.0.from == t) (pick l.0) f.1).0, l.2)

    pub each_over : (P : Offer K → Type 0) → ((l : Link K) → Contains net.links l → l.from ≡ t → P (over l)) → (o : Offer K) → Contains all_over o → P o
    each_over P each o has = let l = link_of o has in subst P l.3 (each l.0 l.1 l.2)

    pub in_over : (l : Link K) → Contains net.links l → l.from ≡ t → pick l ≡ true → Contains all_over (over l)
    in_over l laid from picked =
        in_map over (links_from net t pick) l (in_filter (λ l. l.from == t && pick l) net.links l laid (and_from (l.from == t) (pick l) (eq-eqb l.from t from) picked))

  -- for a station along a row
  module _ (n : ℕ) (row : Row K) where
    abbrev pub along : ℕ → Offer K
    along v = record { station = v; cost = m.joined (s.row.costs t) (row.costs v); predecessor = row.predecessors v; first = None; puts = false }

    pub each_along : (P : Offer K → Type 0) → ((v : ℕ) → v < n → P (along v)) → (o : Offer K) → Contains (along_row m s t n row) o → P o
    each_along P each o has = let v = in_from_map along (range_with_len 0 n) o has in subst P v.2 (each v.0 (in_from_range n v.0 v.1))

    pub in_along : (v : ℕ) → v < n → Contains (along_row m s t n row) (along v)
    in_along v there = in_map along (range_with_len 0 n) v (in_range n v there)
