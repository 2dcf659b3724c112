-- The stations of a route, place by place.
use Rattle.std.proofs.Common.{◌≡◌, ◌≢◌, ℕ, zero, suc, ◌+◌, ◌-◌, ◌<◌, ◌≤◌, true, List, [], ◌∷◌, length, slice_index, ⊎_elim, refl, ◌∙◌, arith}
use Rattle.std.specs.List.{list_any}
use Rattle.std.proofs.lemmas.Bool.{cases_eq}
use Rattle.std.proofs.lemmas.Bool.Decides.{nat_tests}
use Rattle.std.proofs.lemmas.List.{length_push, get_or_push, get_or_append_left}
use Rattle.cost.specs.Kind.{Kind}
use Rattle.queue.proofs.DrainedPlaces.{apart_at}
use Rattle.routes.specs.Network.{Network, leads}
use Rattle.routes.specs.Row.{Row}
use Rattle.routes.specs.Walk.{Walk, stay, on, stations_of, SomeWalk}
use Rattle.routes.specs.Chain.{Route}
use Rattle.routes.proofs.Members.{any_from_in}

module _ {K : Type 0} {m : Kind K} {net : Network K} {A : ℕ} where
  -- a walk has some station
  some_station : {B : ℕ} {c : K} (walk : Walk m net A B c) → 1 ≤ length (stations_of walk)
  some_station stay = omega arith
  some_station (on {l = l} walk laid) = omega (arith, length_push (stations_of walk) l.to)

  -- it begins with A
  first : {B : ℕ} {c : K} (walk : Walk m net A B c) → slice_index (stations_of walk) 0 ≡ A
  first stay = refl
  first (on {l = l} walk laid) = get_or_append_left (stations_of walk) (l.to ∷ []) 0 0 (some_station walk) ∙ first walk

  -- it ends with B
  last : {B : ℕ} {c : K} (walk : Walk m net A B c) (i : ℕ) → length (stations_of walk) ≡ i + 1 → slice_index (stations_of walk) i ≡ B
  last stay zero e = refl
  last stay (suc i) e = absurd (omega arith)
  last (on {l = l} walk laid) i e = get_or_push (stations_of walk) l.to 0 i (omega (arith, length_push (stations_of walk) l.to))

  -- a link leads to each station from the one before it
  linked : {B : ℕ} {c : K} (walk : Walk m net A B c) (i : ℕ) → i + 1 < length (stations_of walk)
      → list_any (leads (slice_index (stations_of walk) i) (slice_index (stations_of walk) (i + 1))) net.links ≡ true
  linked stay i within = absurd (omega arith)
  linked (on {l = l} walk laid) i within =
      let xs = stations_of walk in
      let before = get_or_append_left xs (l.to ∷ []) 0 i (omega (arith, length_push xs l.to)) in
      ⊎_elim
      (λ (here : i + 1 ≡ length xs).
      let from = before ∙ last walk i (omega arith) in
      let to = get_or_push xs l.to 0 (i + 1) (omega arith) in
      rw (from, to) (any_from_in (leads l.from l.to) net.links l laid (grind (arith, nat_tests))))
      (λ earlier.
      let after = get_or_append_left xs (l.to ∷ []) 0 (i + 1) (omega (arith, length_push xs l.to)) in
      rw (before, after) (linked walk i (omega (arith, length_push xs l.to))))
      (cases_eq (i + 1) (length xs))

module _ {K : Type 0} {m : Kind K} {net : Network K} {A B : ℕ} {row : Row K} {xs : List ℕ} (route : Route m net A row B xs) where
  pub route_walks : SomeWalk m net A B (row.costs B)
  route_walks = record { cost = route.cost; walk = route.walk; same = route.costs_that }

  pub route_begins : slice_index xs 0 ≡ A
  route_begins = rw route.passes at (first route.walk)

  pub route_ends : slice_index xs (length xs - 1) ≡ B
  route_ends = rw route.passes at (last route.walk (length (stations_of route.walk) - 1) (omega (arith, some_station route.walk)))

  pub route_linked : (i : ℕ) → i + 1 < length xs → list_any (leads (slice_index xs i) (slice_index xs (i + 1))) net.links ≡ true
  route_linked i within = rw route.passes at (linked route.walk i (rw route.passes within))

  pub route_apart : (i j : ℕ) → i < j → j < length xs → slice_index xs i ≢ slice_index xs j
  route_apart = apart_at xs route.none_twice.at_most_once

-- what the contract wants
pub ruleset by_route = (route_walks, route_begins, route_ends, route_linked, route_apart)
