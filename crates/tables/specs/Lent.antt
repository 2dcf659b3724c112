-- The memory that tables stand over.
--
--   SameMemory t t'   t' stands over the lent slices of t
--   Over t l c p      t stands over these slices, as a list, costs and predecessors
use Rattle.std.specs.Prelude.{◌≡◌, ℕ, List}
use Rattle.std.specs.Borrow.{MutBor}
use Rattle.cost.specs.declared.link.Link.{Link}
use Rattle.tables.specs.declared.state.Tables.{Tables}

pub record SameMemory {K : Type 0} (t t' : Tables K) : Type 0 where
  pub list : t'.list.ghost_name ≡ t.list.ghost_name
  pub costs : t'.costs.ghost_name ≡ t.costs.ghost_name
  pub predecessors : t'.predecessors.ghost_name ≡ t.predecessors.ghost_name

pub record Over {K : Type 0} (t : Tables K) (l : MutBor (List (Link K))) (c : MutBor (List K)) (p : MutBor (List ℕ)) : Type 0 where
  pub list : t.list.ghost_name ≡ l.ghost_name
  pub costs : t.costs.ghost_name ≡ c.ghost_name
  pub predecessors : t.predecessors.ghost_name ≡ p.ghost_name
