-- Stations, and the links that run between them.
--
--   Network K          how many stations there are, and the links in the order in which they were laid
--   leads a b l        the link l leads from a to b
--   Between net        every link runs from one of the stations to one of them
--   OnePerPair net     two stations have one link in a direction, or none: two of one pair are the same
--   NoneFree m net     no link costs zero
use Rattle.std.specs.Prelude.{◌≡◌, ℕ, ◌<◌, Bool, ◌&&◌, ◌==◌, List}
use Rattle.std.specs.List.{Contains}
use Rattle.cost.specs.Kind.{Kind, Same}
use Rattle.cost.specs.declared.link.Link.{Link}

pub record Network (K : Type 0) : Type 0 where
  pub stations : ℕ
  pub links : List (Link K)

abbrev pub leads : {K : Type 0} → ℕ → ℕ → Link K → Bool
leads a b l = l.from == a && l.to == b

abbrev pub Between : {K : Type 0} → Network K → Type 0
Between {K} net = (l : Link K) → Contains net.links l → (l.from < net.stations) × (l.to < net.stations)

abbrev pub OnePerPair : {K : Type 0} → Network K → Type 0
OnePerPair {K} net = (k l : Link K) → Contains net.links k → Contains net.links l → k.from ≡ l.from → k.to ≡ l.to → k ≡ l

abbrev pub NoneFree : {K : Type 0} → Kind K → Network K → Type 0
NoneFree {K} m net = (l : Link K) → Contains net.links l → Same m l.cost m.zero → ⊥
