-- The whole table of a plan file, by one method.
--
--   FilledBy m method p xs xs' ys ys'
--                        all rows of the plan p, which is in bounds, were worked in row order by the method; they are right,
--                        and stand at the start of the lists xs' and ys', which were xs and ys; the places after them stay
--   TabledBy m net k xs xs' ys ys'
--                        that of a plan of these stations and links, with no row worked, by the method of the number k
--   table_by_refusal f k l xs ys bs   the refusals of a file, and then those of a method's and a queue's number
--   TableByIn m formed f bs k l ..    the call is refused, or the table stands there, and the facts are the number of stations
--   TableByAnswer bs k l ..           that, for the kind that the file's kind byte names
use Rattle.std.specs.Prelude.{◌≡◌, ℕ, ◌<◌, List, [], ◌∷◌, length, Some, Option}
use Rattle.std.specs.Option.{option_or}
use Rattle.cost.specs.Kind.{Kind}
use Rattle.cost.specs.Split.{split_formed, split_kind}
use Rattle.cost.specs.Sum.{sum_formed, sum_kind}
use Rattle.filekind.specs.Format.{Format, split_format, sum_format}
use Rattle.filekind.specs.Named.{kind_of}
use Rattle.filekind.specs.declared.named.Kind.{Kind as FileKind}
use Rattle.filekind.specs.declared.named.Kind.TheVariants as kind
use Rattle.planfile.specs.Reading.{stations_of}
use Rattle.queue.specs.Meaning.{Meaning}
use Rattle.refusal.specs.declared.Code.{Code}
use Rattle.routes.specs.Network.{Network}
use Rattle.routes.specs.Row.{Right}
use Rattle.routes.specs.declared.method.Method.{Method}
use Rattle.ledger.specs.Ledger.{network}
use Rattle.tables.specs.Made.{made}
use Rattle.tables.specs.Read.{file_refusal}
use Rattle.plan.specs.View.{view}
use Rattle.tables.specs.declared.state.Tables.{Tables as Plan}
use Rattle.listing.specs.AllRows.{AllWorked}
use Rattle.listing.specs.Report.{file_network}
use Rattle.capi.specs.Choices.{choice_refusal, method_named}
use Rattle.capi.specs.Facts.{Accepts, Answered}
use Rattle.capi.specs.Sound.{most_links}
use Rattle.capi.specs.Table.{Kept}
use Rattle.capi.specs.Tabled.{Bounds, Filled}

module _ {K : Type 0} (m : Kind K) where
  pub record FilledBy (method : Method) (p : Plan K) (xs xs' ys ys' : List ℕ) : Type 0 where
    pub after : Plan K
    pub queue : Meaning
    pub queue_then : Meaning
    pub worked : AllWorked m method p queue (view m p).ledger.stations after queue_then
    pub bounds : Bounds (network (view m p).ledger)
    pub right : (a : ℕ) → a < (view m p).ledger.stations → Right m (network (view m p).ledger) a ((view m after).rows a)
    pub filled : Filled m (network (view m p).ledger) (view m after).rows xs xs' ys ys'

  pub record TabledBy (net : Network K) (k : ℕ) (xs xs' ys ys' : List ℕ) : Type 0 where
    pub method : Method
    pub named : method_named k ≡ Some method
    pub plan : Plan K
    pub begins : (view m plan).ledger ≡ made net.stations most_links net.links
    pub filled : FilledBy method plan xs xs' ys ys'

  pub record TableByThen (formed : ℕ → Option K) (bs : List ℕ) (k : ℕ) (xs xs' ys ys' facts facts' : List ℕ) (r : ℕ) : Type 0 where
    pub answer : Accepts (stations_of bs ∷ []) facts facts' r
    pub tabled : TabledBy (file_network m formed bs) k xs xs' ys ys'

abbrev pub table_by_refusal : Format → ℕ → ℕ → List ℕ → List ℕ → List ℕ → Option Code
table_by_refusal f k l xs ys bs = option_or (file_refusal f most_links (length xs) (length ys) bs) (choice_refusal k l)

abbrev pub TableByIn : {K : Type 0} → Kind K → (ℕ → Option K) → Format → List ℕ → ℕ → ℕ → List ℕ → List ℕ → List ℕ → List ℕ → List ℕ → List ℕ → ℕ → Type 0
TableByIn m formed f bs k l xs xs' ys ys' facts facts' r =
    Answered (table_by_refusal f k l xs ys bs) (Kept xs xs' ys ys') facts facts' r (TableByThen m formed bs k xs xs' ys ys' facts facts' r)

abbrev pub TableByAs : FileKind → List ℕ → ℕ → ℕ → List ℕ → List ℕ → List ℕ → List ℕ → List ℕ → List ℕ → ℕ → Type 0
TableByAs kind.Sum bs k l xs xs' ys ys' facts facts' r = TableByIn sum_kind sum_formed sum_format bs k l xs xs' ys ys' facts facts' r
TableByAs kind.Split bs k l xs xs' ys ys' facts facts' r = TableByIn split_kind split_formed split_format bs k l xs xs' ys ys' facts facts' r

abbrev pub TableByAnswer : List ℕ → ℕ → ℕ → List ℕ → List ℕ → List ℕ → List ℕ → List ℕ → List ℕ → ℕ → Type 0
TableByAnswer bs k l xs xs' ys ys' facts facts' r = TableByAs (kind_of bs) bs k l xs xs' ys ys' facts facts' r
