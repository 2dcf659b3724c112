-- Following what a station that was taken offers.
--
--   first_by trail v           the first station after the source on the way to v, as the trail has it
--   guide_row m t guide        the guiding row, if there is one
--   over_link label t first l  the label joined with the link l, for the station where it ends
--   over label t first pick links   ... with each of the links that leave t and are picked
--   along_by worked method     whether the offers of a station go along its row
--   by_links m task s t        what t offers over links by the task's method: reuse follows them as plain does
--   along_cell m label row v   the label joined with the row's cost of v, for v, with the row's predecessor; it is not put
--   along m label row vs       ... for each of the stations vs
use Rattle.std.specs.Prelude.{ℕ, Bool, true, false, ◌&&◌, ◌==◌, List, map, Option, Some, None}
use Rattle.std.specs.List.{filter}
use Rattle.std.specs.Option.{option_map}
use Rattle.cost.specs.Kind.{Kind}
use Rattle.cost.specs.declared.link.Link.{Link}
use Rattle.routes.specs.Row.{Row}
use Rattle.routes.specs.Task.{Task}
use Rattle.routes.specs.State.{State}
use Rattle.routes.specs.Offers.{Offer}
use Rattle.routes.specs.Methods.{plain, prune}
use Rattle.routes.specs.declared.method.Method.{Method}
use Rattle.routes.specs.declared.method.Method.TheVariants.{Plain, Reuse, Prune}
use Rattle.tables.specs.declared.state.Tables.{Tables}
use Rattle.tables.specs.declared.following.Trail.{Trail}
use Rattle.tables.specs.declared.following.Trail.TheVariants.{Unkept, Begins, Goes}
use Rattle.tables.specs.View.{row_of}

abbrev pub first_by : Trail → ℕ → Option ℕ
first_by Unkept v = None
first_by Begins v = Some v
first_by (Goes first) v = first

abbrev pub guide_row : {K : Type 0} → Kind K → Tables K → Option ℕ → Option (Row K)
guide_row m t guide = option_map (row_of m t) guide

module _ {K : Type 0} (m : Kind K) (label : K) (t : ℕ) (first : ℕ → Option ℕ) where
  abbrev pub over_link : Link K → Offer K
  over_link l = record { station = l.to; cost = m.joined label l.cost; predecessor = Some t; first = first l.to; puts = true }

  abbrev pub over : (Link K → Bool) → List (Link K) → List (Offer K)
  over pick links = map over_link (filter (λ l. l.from == t && pick l) links)

module _ {K : Type 0} (m : Kind K) (label : K) (row : Row K) where
  abbrev pub along_cell : ℕ → Offer K
  along_cell v = record { station = v; cost = m.joined label (row.costs v); predecessor = row.predecessors v; first = None; puts = false }

  abbrev pub along : List ℕ → List (Offer K)
  along vs = map along_cell vs

abbrev pub along_by : Bool → Method → Bool
along_by worked Plain = false
along_by worked Reuse = worked
along_by worked Prune = false

module _ {K : Type 0} (m : Kind K) (task : Task K) (s : State K) (t : ℕ) where
  abbrev pub links_by : Method → List (Offer K)
  links_by Plain = plain m task s t
  links_by Reuse = plain m task s t
  links_by Prune = prune m task s t

  abbrev pub by_links : List (Offer K)
  by_links = links_by task.method
