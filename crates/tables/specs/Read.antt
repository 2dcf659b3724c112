-- Commissioning by a plan file: which refusal a file meets, and what the tables hold then.
--
--   file_refusal f places costs predecessors bs   the first refusal that fits a file read into a list of so many places, and for tables of so
--                                                 many cells
--   Read m formed bs t t'                         t' is t after the file bs was read: its links stand at the list's start, and the cells of
--                                                 its stations are cleared; the memory is the same
use Rattle.std.specs.Prelude.{◌≡◌, ℕ, ◌*◌, ◌||◌, List, length, Option, nat_lt}
use Rattle.std.specs.Option.{option_or}
use Rattle.cost.specs.Kind.{Kind}
use Rattle.filekind.specs.Format.{Format}
use Rattle.refusal.specs.Code.{bare}
use Rattle.refusal.specs.First.{refused_if}
use Rattle.refusal.specs.declared.Code.{Code}
use Rattle.planfile.specs.Fronted.{fronted}
use Rattle.planfile.specs.Reading.{header_refusal, links_of, reading_refusal, stations_of}
use Rattle.tables.specs.declared.state.Tables.{Tables}
use Rattle.tables.specs.Lent.{SameMemory}
use Rattle.tables.specs.View.{ledger_of}
use Rattle.tables.specs.Filled.{Filled}
use Rattle.tables.specs.Made.{made}

abbrev pub file_refusal : Format → ℕ → ℕ → ℕ → List ℕ → Option Code
file_refusal f places costs predecessors bs =
    let cells = stations_of bs * stations_of bs in
    option_or (header_refusal f places bs)
    (refused_if (nat_lt costs cells || nat_lt predecessors cells) (bare 19)
    (reading_refusal f places bs))

pub record Read {K : Type 0} (m : Kind K) (formed : ℕ → Option K) (bs : List ℕ) (t t' : Tables K) : Type 0 where
  pub memory : SameMemory t t'
  pub ledger : ledger_of t' ≡ made (stations_of bs) (length t.list.now) (links_of m formed bs)
  pub list : t'.list.now ≡ fronted (links_of m formed bs) t.list.now
  pub costs : Filled 0 (stations_of bs * stations_of bs) m.far t.costs.now t'.costs.now
  pub predecessors : Filled 0 (stations_of bs * stations_of bs) 65535 t.predecessors.now t'.predecessors.now
