-- Links as a plan has them.
--
--   OtherPair k l    the links k and l do not both run from one station to one other
--   Fair m net       the links run between stations, each from one to another; no two links of the list are of one pair; none costs zero
use Rattle.std.specs.Prelude.{◌≡◌, ◌≢◌}
use Rattle.std.specs.List.{All, AllPairs}
use Rattle.cost.specs.Kind.{Kind}
use Rattle.cost.specs.declared.link.Link.{Link}
use Rattle.routes.specs.Network.{Network, Between, NoneFree}

abbrev pub OtherPair : {K : Type 0} → Link K → Link K → Type 0
OtherPair k l = k.from ≡ l.from → k.to ≢ l.to

pub record Fair {K : Type 0} (m : Kind K) (net : Network K) : Type 0 where
  pub between : Between net
  pub to_another : All (λ l. l.from ≢ l.to) net.links
  pub pairs : AllPairs OtherPair net.links
  pub none_free : NoneFree m net
