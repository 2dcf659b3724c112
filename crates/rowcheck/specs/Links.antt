-- Links, tested one after the other, and what they tell of stations.
--
--   chosen l           the link l leads to its end from the end's predecessor
--   link_answer l      if l leads to a station, the cause by which that station fails for it
--   marked l found     the end of l is marked in found where l is chosen
--   led B p            a link leads to B from its predecessor p
--   Looked found       no station fails for one of the links, and found tells of each whether it is led to from its predecessor
--   unfound found B    the cause of a predecessor from which no link leads, as found tells
use Rattle.std.specs.Prelude.{◌≡◌, ℕ, ◌<◌, Bool, true, false, cond, not, ◌&&◌, ◌==◌, List, Ok, Err, Result, Some, None, Option, is_some, nat_le, nat_lt, slice_index_or, slice_set}
use Rattle.std.specs.List.{list_any}
use Rattle.std.specs.Option.{option_map_or}
use Rattle.cost.specs.Kind.{Kind}
use Rattle.cost.specs.declared.link.Link.{Link}
use Rattle.refusal.specs.First.{refused_if}
use Rattle.refusal.specs.declared.Failing.{Failing}
use Rattle.routes.specs.Fails.{rank_at, rank_over, loose, undercut}
use Rattle.routes.specs.Network.{Network, leads}
use Rattle.routes.specs.Row.{Row}

module _ {K : Type 0} (m : Kind K) (net : Network K) (A : ℕ) (row : Row K) where
  abbrev pub chosen : Link K → Bool
  chosen l = option_map_or (λ p. l.from == p) (row.predecessors l.to) false

  abbrev pub link_answer : Link K → Result (Unit {0}) Failing
  link_answer l =
      cond (nat_le net.stations l.to) (Ok tt)
      (cond (nat_lt (rank_over m net A row l) (rank_at m net A row l.to)) (Err (record { station = l.to; cause = 5 }))
      (cond (chosen l && not (rank_over m net A row l == rank_at m net A row l.to)) (Err (record { station = l.to; cause = 4 }))
      (Ok tt)))

  abbrev pub marked : Link K → List Bool → List Bool
  marked l found = cond (nat_lt l.to net.stations && chosen l) (slice_set found l.to true) found

  abbrev pub led : ℕ → Option ℕ → Bool
  led B None = false
  led B (Some p) = list_any (leads p B) net.links

  pub record Looked (found : List Bool) : Type 0 where
    pub none_undercut : (B : ℕ) → B < net.stations → undercut m net A row B ≡ false
    pub none_loose : (B : ℕ) → B < net.stations → loose m net A row B (row.predecessors B) ≡ false
    pub tells : (B : ℕ) → B < net.stations → slice_index_or found B false ≡ led B (row.predecessors B)

abbrev pub unfound : {K : Type 0} → Row K → List Bool → ℕ → Option ℕ
unfound row found B = refused_if (is_some (row.predecessors B) && not (slice_index_or found B false)) 3 None
