-- Walks go on by a link, and join to longer ones.
use Rattle.std.proofs.Common.{◌≡◌, ℕ, ◌<◌, Some, refl, sym, ap, ◌∙◌, subst}
use Rattle.std.specs.List.{Contains}
use Rattle.cost.specs.Kind.{Kind, Same}
use Rattle.cost.specs.Laws.{Laws}
use Rattle.cost.specs.declared.link.Link.{Link}
use Rattle.routes.proofs.Costs.{same_left, same_right}
use Rattle.routes.specs.Network.{Network, Between}
use Rattle.routes.specs.Walk.{Walk, stay, on, before, SomeWalk, LastBefore}

-- a walk from A to p, and a link from p to B by which it goes on at cost c
pub record LastLink {K : Type 0} (m : Kind K) (net : Network K) (A p B : ℕ) (c : K) : Type 0 where
  pub cost : K
  pub walk : Walk m net A p cost
  pub link : Link K
  pub laid : Contains net.links link
  pub starts : link.from ≡ p
  pub ends : link.to ≡ B
  pub same : Same m (m.joined cost link.cost) c

module _ {K : Type 0} {m : Kind K} {net : Network K} {A : ℕ} where
  -- what a walk costs, something costs
  pub walk_costs : {B : ℕ} {c : K} → Walk m net A B c → SomeWalk m net A B c
  walk_costs {c = c} walk = record { cost = c; walk = walk; same = refl }

  -- one that p stands last before the end of costs that
  pub costs_from_last : {p B : ℕ} {c : K} → LastBefore m net A p B c → SomeWalk m net A B c
  costs_from_last last = record { cost = last.cost; walk = last.walk; same = last.same }

  -- equal costs
  pub costs_same : {B : ℕ} {c d : K} → SomeWalk m net A B c → Same m c d → SomeWalk m net A B d
  costs_same costs e = record { cost = costs.cost; walk = costs.walk; same = costs.same ∙ e }

  pub last_same : {p B : ℕ} {c d : K} → LastBefore m net A p B c → Same m c d → LastBefore m net A p B d
  last_same last e = record { cost = last.cost; walk = last.walk; same = last.same ∙ e; last = last.last }

  -- the last link of a walk
  link_of_walk : {p B : ℕ} {c d : K} (walk : Walk m net A B d) → before walk ≡ Some p → Same m d c → LastLink m net A p B c
  link_of_walk {p} {B} {c} stay last same = absurd (cc last)
  link_of_walk {p} {B} {c} (on {c = d} {l = l} walk laid) last same =
      let starts : l.from ≡ p = cc last in
      record { cost = d; walk = subst (λ (z : ℕ). Walk m net A z d) starts walk; link = l; laid = laid; starts = starts; ends = refl; same = same }

  pub link_of_last : {p B : ℕ} {c : K} → LastBefore m net A p B c → LastLink m net A p B c
  link_of_last last = link_of_walk last.walk last.last last.same

  -- and back
  pub last_of_link : {p B : ℕ} {c : K} → LastLink m net A p B c → LastBefore m net A p B c
  last_of_link {p} {B} {c} by =
      subst (λ (z : ℕ). LastBefore m net A p z c) by.ends
      (record {
        cost = m.joined by.cost by.link.cost;
        walk = on (subst (λ (z : ℕ). Walk m net A z by.cost) (sym by.starts) by.walk) by.laid;
        same = by.same;
        last = ap Some by.starts;
      })

  -- stations of a walk
  module _ (between : Between net) (source : A < net.stations) where
    pub walk_ends : {B : ℕ} {c : K} → Walk m net A B c → B < net.stations
    walk_ends stay = source
    walk_ends (on {l = l} walk laid) = (between l laid).1

    pub costs_ends : {B : ℕ} {c : K} → SomeWalk m net A B c → B < net.stations
    costs_ends costs = walk_ends costs.walk

    pub last_ends : {p B : ℕ} {c : K} → LastBefore m net A p B c → p < net.stations
    last_ends last = walk_ends (link_of_last last).walk

module _ {K : Type 0} {m : Kind K} (laws : Laws m) {net : Network K} {A : ℕ} where
  -- a walk goes on by a link
  pub goes_on : {c : K} (l : Link K) → SomeWalk m net A l.from c → Contains net.links l → LastBefore m net A l.from l.to (m.joined c l.cost)
  goes_on {c} l costs laid =
      record { cost = m.joined costs.cost l.cost; walk = on costs.walk laid; same = same_left laws costs.cost c l.cost costs.same; last = refl }

  pub goes_on_to : {p B : ℕ} {c : K} (l : Link K) → SomeWalk m net A p c → Contains net.links l → l.from ≡ p → l.to ≡ B → LastBefore m net A p B (m.joined c l.cost)
  goes_on_to {p} {B} {c} l costs laid starts ends =
      last_of_link (record { cost = costs.cost; walk = costs.walk; link = l; laid = laid; starts = starts; ends = ends; same = same_left laws costs.cost c l.cost costs.same })

  -- and by a walk
  goes_along : {t v : ℕ} {c d : K} → Walk m net A t c → Walk m net t v d → SomeWalk m net A v (m.joined c d)
  goes_along {c = c} first stay = record { cost = c; walk = first; same = sym (laws.zero_right c) }
  goes_along {c = c} first (on {c = e} {l = l} walk laid) =
      costs_same (costs_from_last (goes_on l (goes_along first walk) laid)) (laws.join_associative c e l.cost)

  pub along : {t v : ℕ} {c d : K} → SomeWalk m net A t c → SomeWalk m net t v d → SomeWalk m net A v (m.joined c d)
  along {c = c} {d = d} first then =
      costs_same (goes_along first.walk then.walk)
      (same_left laws first.cost c then.cost first.same ∙ same_right laws then.cost d c then.same)

  -- past the station that stands last before the end
  pub along_last : {t p v : ℕ} {c d : K} → SomeWalk m net A t c → LastBefore m net t p v d → LastBefore m net A p v (m.joined c d)
  along_last {c = c} {d = d} first last =
      let by = link_of_last last in
      last_same (goes_on_to by.link (along first (walk_costs by.walk)) by.laid by.starts by.ends)
      (laws.join_associative c by.cost by.link.cost ∙ same_right laws (m.joined by.cost by.link.cost) d c by.same)
