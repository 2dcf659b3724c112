-- What an accepted call leaves in the ledger.
--
--   without a b links    the links without the first that leads from a to b
--   after_lay g a b c    the link from a to b at cost c stands last; no row is marked
--   after_lift g a b     the link from a to b is taken out; no row is marked
--   after_work g a       row a is marked
use Rattle.std.specs.Prelude.{ℕ, true, List, [], ◌∷◌, ◌++◌, if◌then◌else◌}
use Rattle.cost.specs.declared.link.Link.{Link}
use Rattle.routes.specs.Network.{leads}
use Rattle.routes.specs.State.{written}
use Rattle.ledger.specs.Ledger.{Ledger, unmarked}

module _ {K : Type 0} where
  abbrev pub without : ℕ → ℕ → List (Link K) → List (Link K)
  without a b [] = []
  without a b (l ∷ ls) = if leads a b l then ls else (l ∷ without a b ls)

  abbrev pub after_lay : Ledger K → ℕ → ℕ → K → Ledger K
  after_lay g a b c = record {
    stations = g.stations;
    places = g.places;
    links = g.links ++ record { from = a; to = b; cost = c } ∷ [];
    marked = unmarked;
  }

  abbrev pub after_lift : Ledger K → ℕ → ℕ → Ledger K
  after_lift g a b = record { stations = g.stations; places = g.places; links = without a b g.links; marked = unmarked }

  abbrev pub after_work : Ledger K → ℕ → Ledger K
  after_work g a = record { stations = g.stations; places = g.places; links = g.links; marked = written g.marked a true }
