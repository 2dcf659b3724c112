-- The three methods: what a station that is taken offers to others.
--
--   links_from net t pick    the links that leave t and are picked, in list order
--   tight m row l            the row's cost of where l begins, joined with l, equals its cost of where l ends, which is not FAR
--   guiding rows first       the row of a first station, if there is one and its row is worked
--   guided                   whether a link is tight in a row, if there is one; else any link is followed
--   over_links               t's label joined with each of the links given, for the station where it ends
--   along_row                t's label joined with each cost of row t, with row t's predecessors, for all stations in order; it puts none
--   plain                    over all links from t: Dijkstra's method
--   reuse                    along row t where that is worked, else plain
--   prune                    where t is not the source, and the row of its first station after the source is worked, over the links from t
--                            that are tight in that row; else over all
--   offers m task s t        what t offers in state s by the task's method
use Rattle.std.specs.Prelude.{ℕ, Bool, true, false, not, ◌&&◌, ◌==◌, List, map, Option, Some, None, if◌then◌else◌}
use Rattle.std.specs.List.{filter, range_with_len}
use Rattle.cost.specs.Kind.{Kind, FAR}
use Rattle.cost.specs.declared.link.Link.{Link}
use Rattle.routes.specs.Network.{Network}
use Rattle.routes.specs.Row.{Row}
use Rattle.routes.specs.Task.{Task}
use Rattle.routes.specs.State.{State}
use Rattle.routes.specs.Offers.{Offer}
use Rattle.routes.specs.declared.method.Method.{Method}
use Rattle.routes.specs.declared.method.Method.TheVariants.{Plain, Reuse, Prune}

abbrev pub links_from : {K : Type 0} → Network K → ℕ → (Link K → Bool) → List (Link K)
links_from net t pick = filter (λ l. l.from == t && pick l) net.links

abbrev pub guiding : {K : Type 0} → (ℕ → Option (Row K)) → Option ℕ → Option (Row K)
guiding rows None = None
guiding rows (Some w) = rows w

module _ {K : Type 0} (m : Kind K) where
  abbrev pub tight : Row K → Link K → Bool
  tight row l = m.rank (m.joined (row.costs l.from) l.cost) == m.rank (row.costs l.to) && not (m.rank (row.costs l.to) == FAR)

  abbrev pub guided : Option (Row K) → Link K → Bool
  guided None l = true
  guided (Some row) l = tight row l

  abbrev pub over_links : State K → ℕ → (ℕ → Option ℕ) → List (Link K) → List (Offer K)
  over_links s t first links =
      map (λ l. record {
        station = l.to;
        cost = m.joined (s.row.costs t) l.cost;
        predecessor = Some t;
        first = first l.to;
        puts = true;
      }) links

  abbrev pub along_row : State K → ℕ → ℕ → Row K → List (Offer K)
  along_row s t n row =
      map (λ v. record {
        station = v;
        cost = m.joined (s.row.costs t) (row.costs v);
        predecessor = row.predecessors v;
        first = None;
        puts = false;
      }) (range_with_len 0 n)

  module _ (task : Task K) (s : State K) (t : ℕ) where
    abbrev pub plain : List (Offer K)
    plain = over_links s t (λ v. None) (links_from task.network t (λ l. true))

    abbrev pub reuse : Option (Row K) → List (Offer K)
    reuse None = plain
    reuse (Some row) = along_row s t task.network.stations row

    -- the first station after the source on the way to v through t
    abbrev pub first_through : ℕ → Option ℕ
    first_through v = if t == task.source then Some v else s.firsts t

    abbrev pub prune : List (Offer K)
    prune = over_links s t first_through (links_from task.network t (guided (if t == task.source then None else guiding task.rows (s.firsts t))))

    abbrev pub by_method : Method → List (Offer K)
    by_method Plain = plain
    by_method Reuse = reuse (task.rows t)
    by_method Prune = prune

    abbrev pub offers : List (Offer K)
    offers = by_method task.method
