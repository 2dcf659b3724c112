-- The account of a plan file.
--
--   most_places                       the places of the list that an account reads into
--   plan_text m f counts links        a line for the counts, then a line for each link in order
--   refused_or refusal text           the refusal's line where there is one, else the text
--   account_in m formed f places bs   the account of a file for one kind: the refusal's line, or the plan's text
--   account_as kind bs                the account of a file read as one of the delivered kinds
--   account_of bs                     the account for the kind that the file's kind byte names, else for sum
use Rattle.std.specs.Prelude.{ℕ, List, ◌++◌, Some, None, Option}
use Rattle.std.specs.List.{flat_map}
use Rattle.cost.specs.Kind.{Kind}
use Rattle.cost.specs.Split.{split_formed, split_kind}
use Rattle.cost.specs.Sum.{sum_formed, sum_kind}
use Rattle.cost.specs.declared.link.Link.{Link}
use Rattle.filekind.specs.Format.{Format, split_format, sum_format}
use Rattle.filekind.specs.Named.{kind_of}
use Rattle.filekind.specs.declared.named.Kind.{Kind as FileKind}
use Rattle.filekind.specs.declared.named.Kind.TheVariants as kind
use Rattle.planfile.specs.Reading.{counts_of, links_of, reading_refusal}
use Rattle.planfile.specs.declared.counts.Counts.{Counts}
use Rattle.refusal.specs.declared.Code.{Code}
use Rattle.account.specs.Lines.{head_line, link_line, refused_line}

abbrev pub most_places : ℕ
most_places = 4096

abbrev pub plan_text : {K : Type 0} → Kind K → Format → Counts → List (Link K) → List ℕ
plan_text m f counts links = head_line f counts ++ flat_map (link_line m) links

abbrev pub refused_or : Option Code → List ℕ → List ℕ
refused_or (Some c) text = refused_line c
refused_or None text = text

abbrev pub account_in : {K : Type 0} → Kind K → (ℕ → Option K) → Format → ℕ → List ℕ → List ℕ
account_in m formed f places bs = refused_or (reading_refusal f places bs) (plan_text m f (counts_of bs) (links_of m formed bs))

abbrev pub account_as : FileKind → List ℕ → List ℕ
account_as kind.Sum bs = account_in sum_kind sum_formed sum_format most_places bs
account_as kind.Split bs = account_in split_kind split_formed split_format most_places bs

abbrev pub account_of : List ℕ → List ℕ
account_of bs = account_as (kind_of bs) bs
