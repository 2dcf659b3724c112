-- The report of a plan file: the least cost of each pair of stations.
--
--   most_links                the places of the list that a report reads into
--   most_cells                the cells of each of its tables, as 64 stations need
--   Listed m f net text       the text has a line for the kind and the counts, then a line for each pair of stations, in row order, at a
--                             cost that is the least of this pair on the links
--   or_refused refusal text P the refusal's line where there is one, else P
--   file_network m formed bs  the stations and links of a file
--   ReportIn m formed f places costs predecessors bs text
--                             a report for one kind, from a list of so many places and tables of so many cells
--   ReportAs kind bs text     a report of a file that is read as one of the delivered kinds
--   Report bs text            a report for the kind that the file's kind byte names, else for sum
use Rattle.std.specs.Prelude.{◌≡◌, ℕ, ◌<◌, ◌++◌, List, length, Some, None, Option}
use Rattle.cost.specs.Kind.{Kind}
use Rattle.cost.specs.Split.{split_formed, split_kind}
use Rattle.cost.specs.Sum.{sum_formed, sum_kind}
use Rattle.filekind.specs.Format.{Format, split_format, sum_format}
use Rattle.filekind.specs.Named.{kind_of}
use Rattle.filekind.specs.declared.named.Kind.{Kind as FileKind}
use Rattle.filekind.specs.declared.named.Kind.TheVariants as kind
use Rattle.planfile.specs.Reading.{links_of, stations_of}
use Rattle.refusal.specs.declared.Code.{Code}
use Rattle.routes.specs.Least.{Least}
use Rattle.routes.specs.Network.{Network}
use Rattle.tables.specs.Read.{file_refusal}
use Rattle.account.specs.Lines.{head_line, refused_line}
use Rattle.listing.specs.Lines.{pairs_text}

abbrev pub most_links : ℕ
most_links = 512

abbrev pub most_cells : ℕ
most_cells = 4096

pub record Listed {K : Type 0} (m : Kind K) (f : Format) (net : Network K) (text : List ℕ) : Type 0 where
  pub costs : ℕ → ℕ → K
  pub least : (a b : ℕ) → a < net.stations → b < net.stations → Least m net a b (costs a b)
  pub lines : text ≡ head_line f (record { stations = net.stations; links = length net.links }) ++ pairs_text m net.stations costs

abbrev pub or_refused : Option Code → List ℕ → Type 0 → Type 0
or_refused (Some c) text P = text ≡ refused_line c
or_refused None text P = P

abbrev pub file_network : {K : Type 0} → Kind K → (ℕ → Option K) → List ℕ → Network K
file_network m formed bs = record { stations = stations_of bs; links = links_of m formed bs }

abbrev pub ReportIn : {K : Type 0} → Kind K → (ℕ → Option K) → Format → ℕ → ℕ → ℕ → List ℕ → List ℕ → Type 0
ReportIn m formed f places costs predecessors bs text =
    or_refused (file_refusal f places costs predecessors bs) text (Listed m f (file_network m formed bs) text)

abbrev pub ReportAs : FileKind → List ℕ → List ℕ → Type 0
ReportAs kind.Sum bs text = ReportIn sum_kind sum_formed sum_format most_links most_cells most_cells bs text
ReportAs kind.Split bs text = ReportIn split_kind split_formed split_format most_links most_cells most_cells bs text

abbrev pub Report : List ℕ → List ℕ → Type 0
Report bs text = ReportAs (kind_of bs) bs text
