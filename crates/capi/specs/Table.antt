-- The whole table of a plan file.
--
--   Kept xs xs' ys ys'         two lists are as they were
--   TableThen .. r             the table stands in the lists, and the facts are the number of stations
--   TableIn m formed f bs xs xs' ys ys' facts facts' r
--                              the file is refused as one that is read beside tables of so many places as the lists have, or that
--   TableAnswer bs ..          that, for the kind that the file's kind byte names
use Rattle.std.specs.Prelude.{◌≡◌, ℕ, List, [], ◌∷◌, length, Option}
use Rattle.cost.specs.Kind.{Kind}
use Rattle.cost.specs.Split.{split_formed, split_kind}
use Rattle.cost.specs.Sum.{sum_formed, sum_kind}
use Rattle.filekind.specs.Format.{Format, split_format, sum_format}
use Rattle.filekind.specs.Named.{kind_of}
use Rattle.filekind.specs.declared.named.Kind.{Kind as FileKind}
use Rattle.filekind.specs.declared.named.Kind.TheVariants as kind
use Rattle.planfile.specs.Reading.{stations_of}
use Rattle.tables.specs.Read.{file_refusal}
use Rattle.listing.specs.Report.{file_network}
use Rattle.capi.specs.Facts.{Accepts, Answered}
use Rattle.capi.specs.Sound.{most_links}
use Rattle.capi.specs.Tabled.{Tabled}

abbrev pub Kept : List ℕ → List ℕ → List ℕ → List ℕ → Type 0
Kept xs xs' ys ys' = (xs' ≡ xs) × (ys' ≡ ys)

pub record TableThen {K : Type 0} (m : Kind K) (formed : ℕ → Option K) (bs xs xs' ys ys' facts facts' : List ℕ) (r : ℕ) : Type 0 where
  pub answer : Accepts (stations_of bs ∷ []) facts facts' r
  pub tabled : Tabled m (file_network m formed bs) xs xs' ys ys'

abbrev pub TableIn : {K : Type 0} → Kind K → (ℕ → Option K) → Format → List ℕ → List ℕ → List ℕ → List ℕ → List ℕ → List ℕ → List ℕ → ℕ → Type 0
TableIn m formed f bs xs xs' ys ys' facts facts' r =
    Answered (file_refusal f most_links (length xs) (length ys) bs) (Kept xs xs' ys ys') facts facts' r (TableThen m formed bs xs xs' ys ys' facts facts' r)

abbrev pub TableAs : FileKind → List ℕ → List ℕ → List ℕ → List ℕ → List ℕ → List ℕ → List ℕ → ℕ → Type 0
TableAs kind.Sum bs xs xs' ys ys' facts facts' r = TableIn sum_kind sum_formed sum_format bs xs xs' ys ys' facts facts' r
TableAs kind.Split bs xs xs' ys ys' facts facts' r = TableIn split_kind split_formed split_format bs xs xs' ys ys' facts facts' r

abbrev pub TableAnswer : List ℕ → List ℕ → List ℕ → List ℕ → List ℕ → List ℕ → List ℕ → ℕ → Type 0
TableAnswer bs xs xs' ys ys' facts facts' r = TableAs (kind_of bs) bs xs xs' ys ys' facts facts' r
