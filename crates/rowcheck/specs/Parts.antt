-- What a test is given.
--
--   network_of s    the stations and the links
--   row_of m s      the supplier's row
use Rattle.cost.specs.Kind.{Kind}
use Rattle.ledger.specs.View.{given}
use Rattle.routes.specs.Network.{Network}
use Rattle.routes.specs.Row.{Row}
use Rattle.rowcheck.specs.declared.supplied.Supplied.{Supplied}

module _ {K : Type 0} where
  abbrev pub network_of : Supplied K → Network K
  network_of s = record { stations = s.stations; links = s.links.now }

  abbrev pub row_of : Kind K → Supplied K → Row K
  row_of m s = given m s.costs.now s.predecessors.now
