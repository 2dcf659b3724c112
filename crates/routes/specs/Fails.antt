-- The tests of a row against the links, and the causes by which a station B fails.
--
--   wrong_source        1  B is the source, and has a cost other than zero, or a predecessor
--   wrong_reach         2  B is not the source, and has FAR with a predecessor, or a cost below FAR without one
--   unlinked            3  B has a predecessor that is not a station, or from which no link leads to B
--   loose               4  B has a predecessor whose cost, joined with some link that leads from it to B, is not B's cost
--   undercut            5  a link leads to B from a station whose cost joined with it is below B's cost
--   fails B cause       whether B fails by the cause of that number
--   NoneFails           no station fails
use Rattle.std.specs.Prelude.{◌≡◌, ℕ, ◌<◌, Bool, false, not, ◌&&◌, ◌||◌, ◌==◌, nat_lt, Some, None, Option, is_some, is_none, cond}
use Rattle.std.specs.List.{list_any}
use Rattle.cost.specs.Kind.{Kind, FAR}
use Rattle.cost.specs.declared.link.Link.{Link}
use Rattle.routes.specs.Network.{Network, leads}
use Rattle.routes.specs.Row.{Row}

module _ {K : Type 0} (m : Kind K) (net : Network K) (A : ℕ) (row : Row K) where
  -- the rank of a station's cost, and of its cost joined with a link that leaves it
  abbrev pub rank_at : ℕ → ℕ
  rank_at B = m.rank (row.costs B)

  abbrev pub rank_over : Link K → ℕ
  rank_over l = m.rank (m.joined (row.costs l.from) l.cost)

  abbrev pub wrong_source : ℕ → Bool
  wrong_source B = B == A && (not (rank_at B == m.rank m.zero) || is_some (row.predecessors B))

  abbrev pub wrong_reach : ℕ → Bool
  wrong_reach B = not (B == A) && cond (rank_at B == FAR) (is_some (row.predecessors B)) (is_none (row.predecessors B))

  abbrev pub unlinked : ℕ → Option ℕ → Bool
  unlinked B None = false
  unlinked B (Some p) = not (nat_lt p net.stations) || not (list_any (leads p B) net.links)

  abbrev pub loose : ℕ → Option ℕ → Bool
  loose B None = false
  loose B (Some p) = list_any (λ l. leads p B l && not (rank_over l == rank_at B)) net.links

  abbrev pub undercut : ℕ → Bool
  undercut B = list_any (λ l. l.to == B && nat_lt (rank_over l) (rank_at B)) net.links

  abbrev pub fails : ℕ → ℕ → Bool
  fails B cause =
      (cause == 1 && wrong_source B)
      || (cause == 2 && wrong_reach B)
      || (cause == 3 && unlinked B (row.predecessors B))
      || (cause == 4 && loose B (row.predecessors B))
      || (cause == 5 && undercut B)

  pub record NoneFails : Type 0 where
    pub passes : (B cause : ℕ) → B < net.stations → fails B cause ≡ false
