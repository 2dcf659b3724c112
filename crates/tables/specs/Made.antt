-- Commissioning: which refusal a number of stations meets, and what the tables hold then.
--
--   make_refusal n places costs predecessors   n stations for a list of so many places, and tables of so many
--   made n places links                        the ledger of n stations and these links, with no row worked
--   Made m n t t'                              t' is t after n stations were commissioned, with no link: all cells are cleared, the list and the
--                                              memory are the same
use Rattle.std.specs.Prelude.{◌≡◌, ℕ, ◌*◌, not, ◌&&◌, ◌||◌, ◌==◌, List, [], length, replicate, None, Option}
use Rattle.cost.specs.Kind.{Kind}
use Rattle.cost.specs.declared.link.Link.{Link}
use Rattle.filekind.specs.Outside.{outside}
use Rattle.refusal.specs.Code.{bare}
use Rattle.refusal.specs.First.{refused_if}
use Rattle.refusal.specs.declared.Code.{Code}
use Rattle.ledger.specs.Ledger.{Ledger, unmarked}
use Rattle.tables.specs.declared.state.Tables.{Tables}
use Rattle.tables.specs.Lent.{SameMemory}
use Rattle.tables.specs.View.{ledger_of}

abbrev pub make_refusal : ℕ → ℕ → ℕ → ℕ → Option Code
make_refusal n places costs predecessors =
    refused_if (outside 1 256 n) (bare 1)
    (refused_if (outside 1 4096 places || not (costs == n * n && predecessors == n * n)) (bare 2) None)

abbrev pub made : {K : Type 0} → ℕ → ℕ → List (Link K) → Ledger K
made n places links = record { stations = n; places = places; links = links; marked = unmarked }

pub record Made {K : Type 0} (m : Kind K) (n : ℕ) (t t' : Tables K) : Type 0 where
  pub memory : SameMemory t t'
  pub ledger : ledger_of t' ≡ made n (length t.list.now) []
  pub list : t'.list.now ≡ t.list.now
  pub costs : t'.costs.now ≡ replicate (n * n) m.far
  pub predecessors : t'.predecessors.now ≡ replicate (n * n) 65535
