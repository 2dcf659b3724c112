-- The ledger of a plan: what is known of it from its commissioning and the calls' arguments alone.
--
--   Ledger K             how many stations there are, how many places for links, the links in the order laid, and which rows are marked
--   network g            its stations and links
--   has_link g a b       some laid link leads from a to b
--   unmarked             no row is marked
use Rattle.std.specs.Prelude.{ℕ, Bool, false, List}
use Rattle.std.specs.List.{list_any}
use Rattle.cost.specs.declared.link.Link.{Link}
use Rattle.routes.specs.Network.{Network, leads}

pub record Ledger (K : Type 0) : Type 0 where
  pub stations : ℕ
  pub places : ℕ
  pub links : List (Link K)
  pub marked : ℕ → Bool

abbrev pub network : {K : Type 0} → Ledger K → Network K
network g = record { stations = g.stations; links = g.links }

abbrev pub has_link : {K : Type 0} → Ledger K → ℕ → ℕ → Bool
has_link g a b = list_any (leads a b) g.links

abbrev pub unmarked : ℕ → Bool
unmarked a = false
