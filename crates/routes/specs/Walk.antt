-- Walks, in which a link leads from each station to the next, and what they cost.
--
--   Walk m net A B c            a walk from A to B whose links cost c, joined from first to last, beginning with zero
--   stations_of walk            its stations, A first and B last
--   before walk                 the station that stands before the last, where there is one
--   SomeWalk m net A B c        some walk from A to B costs c
--   LastBefore m net A p B c    p stands last before B on some walk from A to B that costs c
use Rattle.std.specs.Prelude.{◌≡◌, ℕ, List, [], ◌∷◌, ◌++◌, Option, Some, None}
use Rattle.std.specs.List.{Contains}
use Rattle.cost.specs.Kind.{Kind, Same}
use Rattle.cost.specs.declared.link.Link.{Link}
use Rattle.routes.specs.Network.{Network}

pub data Walk {K : Type 0} (m : Kind K) (net : Network K) (A : ℕ) : ℕ → K → Type 0 where
  stay : Walk m net A A m.zero
  on : {c : K} {l : Link K} → Walk m net A l.from c → Contains net.links l → Walk m net A l.to (m.joined c l.cost)

abbrev pub stations_of : {K : Type 0} {m : Kind K} {net : Network K} {A B : ℕ} {c : K} → Walk m net A B c → List ℕ
stations_of {A = A} stay = A ∷ []
stations_of (on {l = l} walk laid) = stations_of walk ++ l.to ∷ []

abbrev pub before : {K : Type 0} {m : Kind K} {net : Network K} {A B : ℕ} {c : K} → Walk m net A B c → Option ℕ
before stay = None
before (on {l = l} walk laid) = Some l.from

pub record SomeWalk {K : Type 0} (m : Kind K) (net : Network K) (A B : ℕ) (c : K) : Type 0 where
  pub cost : K
  pub walk : Walk m net A B cost
  pub same : Same m cost c

pub record LastBefore {K : Type 0} (m : Kind K) (net : Network K) (A p B : ℕ) (c : K) : Type 0 where
  pub cost : K
  pub walk : Walk m net A B cost
  pub same : Same m cost c
  pub last : before walk ≡ Some p
