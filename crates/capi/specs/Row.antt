-- One row of a plan file.
--
--   RowFilled m v a method xs xs' ys ys' taken
--                       row a was worked from the view v, which is in bounds, by the method; as many stations were taken, and the row
--                       stands at the start of the lists xs' and ys', which were xs and ys; the places after them stay
--   row_refusal f a k l xs ys bs    the refusals of a file; then of the station, of lists that are shorter than the row, and of the
--                       numbers of a method and a queue
--   file_view m formed bs rows      how a plan shows itself that was read from a file: no row is worked, so its rows are free
--   WorkedBy m formed bs a k ..     the row was worked from such a plan, by the method of the number k
--   RowThen m formed bs a k ..      that, and the facts are the numbers of stations and of those taken
--   RowIn m formed f bs a k l ..    the call is refused, or that
--   RowAnswer bs a k l ..           that, for the kind that the file's kind byte names
use Rattle.std.specs.Prelude.{◌≡◌, ℕ, ◌||◌, List, [], ◌∷◌, length, Some, Option, nat_le, nat_lt}
use Rattle.std.specs.Option.{option_or}
use Rattle.cost.specs.Kind.{Kind}
use Rattle.cost.specs.Split.{split_formed, split_kind}
use Rattle.cost.specs.Sum.{sum_formed, sum_kind}
use Rattle.filekind.specs.Format.{Format, split_format, sum_format}
use Rattle.filekind.specs.Named.{kind_of}
use Rattle.filekind.specs.declared.named.Kind.{Kind as FileKind}
use Rattle.filekind.specs.declared.named.Kind.TheVariants as kind
use Rattle.planfile.specs.Reading.{links_of, reading_refusal, stations_of}
use Rattle.queue.specs.Meaning.{Meaning}
use Rattle.refusal.specs.Code.{bare}
use Rattle.refusal.specs.First.{refused_if}
use Rattle.refusal.specs.declared.Code.{Code}
use Rattle.routes.specs.Row.{Row}
use Rattle.routes.specs.declared.method.Method.{Method}
use Rattle.ledger.specs.View.{View}
use Rattle.ledger.specs.Ledger.{network}
use Rattle.ledger.specs.Worked.{Worked}
use Rattle.tables.specs.Copied.{Copied}
use Rattle.tables.specs.Made.{made}
use Rattle.capi.specs.Choices.{choice_refusal, method_named}
use Rattle.capi.specs.Facts.{Accepts, Answered}
use Rattle.capi.specs.Sound.{most_links}
use Rattle.capi.specs.Table.{Kept}
use Rattle.capi.specs.Tabled.{Bounds}

module _ {K : Type 0} (m : Kind K) where
  pub record RowFilled (v : View K) (a : ℕ) (method : Method) (xs xs' ys ys' : List ℕ) (taken : ℕ) : Type 0 where
    pub bounds : Bounds (network v.ledger)
    pub row : Row K
    pub queue : Meaning
    pub worked : Worked m v a method row queue
    pub count : taken ≡ queue.taken
    pub copied : Copied m v.ledger.stations row xs xs' ys ys'

  abbrev pub file_view : (ℕ → Option K) → List ℕ → (ℕ → Row K) → View K
  file_view formed bs rows = record { ledger = made (stations_of bs) most_links (links_of m formed bs); rows = rows }

  pub record WorkedBy (formed : ℕ → Option K) (bs : List ℕ) (a k : ℕ) (xs xs' ys ys' : List ℕ) (taken : ℕ) : Type 0 where
    pub method : Method
    pub named : method_named k ≡ Some method
    pub others : ℕ → Row K
    pub filled : RowFilled (file_view formed bs others) a method xs xs' ys ys' taken

  pub record RowThen (formed : ℕ → Option K) (bs : List ℕ) (a k : ℕ) (xs xs' ys ys' facts facts' : List ℕ) (r : ℕ) : Type 0 where
    pub taken : ℕ
    pub worked : WorkedBy formed bs a k xs xs' ys ys' taken
    pub answer : Accepts (stations_of bs ∷ taken ∷ []) facts facts' r

abbrev pub row_refusal : Format → ℕ → ℕ → ℕ → List ℕ → List ℕ → List ℕ → Option Code
row_refusal f a k l xs ys bs =
    let n = stations_of bs in
    option_or (reading_refusal f most_links bs)
    (refused_if (nat_le n a) (bare 3)
    (refused_if (nat_lt (length xs) n || nat_lt (length ys) n) (bare 12) (choice_refusal k l)))

abbrev pub RowIn : {K : Type 0} → Kind K → (ℕ → Option K) → Format → List ℕ → ℕ → ℕ → ℕ → List ℕ → List ℕ → List ℕ → List ℕ → List ℕ → List ℕ → ℕ → Type 0
RowIn m formed f bs a k l xs xs' ys ys' facts facts' r =
    Answered (row_refusal f a k l xs ys bs) (Kept xs xs' ys ys') facts facts' r (RowThen m formed bs a k xs xs' ys ys' facts facts' r)

abbrev pub RowAs : FileKind → List ℕ → ℕ → ℕ → ℕ → List ℕ → List ℕ → List ℕ → List ℕ → List ℕ → List ℕ → ℕ → Type 0
RowAs kind.Sum bs a k l xs xs' ys ys' facts facts' r = RowIn sum_kind sum_formed sum_format bs a k l xs xs' ys ys' facts facts' r
RowAs kind.Split bs a k l xs xs' ys ys' facts facts' r = RowIn split_kind split_formed split_format bs a k l xs xs' ys ys' facts facts' r

abbrev pub RowAnswer : List ℕ → ℕ → ℕ → ℕ → List ℕ → List ℕ → List ℕ → List ℕ → List ℕ → List ℕ → ℕ → Type 0
RowAnswer bs a k l xs xs' ys ys' facts facts' r = RowAs (kind_of bs) bs a k l xs xs' ys ys' facts facts' r
