-- A route between two stations of a plan file.
--
--   file_ledger m formed bs    the ledger of a plan that was read from a file
--   RouteFound m g a b xs xs' r       asking for the route answers as r does, at the cost that r has; the list is xs' then, and was xs
--   RouteTold m g a b xs xs' facts facts' r   that is told: the number of stations and the cost, or the refusal
--   RouteIn m formed f bs a b ..      the file is refused, or that, once row a is worked
--   RouteAnswer bs a b ..             that, for the kind that the file's kind byte names
use Rattle.std.specs.Prelude.{◌≡◌, ℕ, List, [], ◌∷◌, Ok, Err, Option, Result, MatchResult}
use Rattle.cost.specs.Kind.{Kind}
use Rattle.cost.specs.Split.{split_formed, split_kind}
use Rattle.cost.specs.Sum.{sum_formed, sum_kind}
use Rattle.filekind.specs.Format.{Format, split_format, sum_format}
use Rattle.filekind.specs.Named.{kind_of}
use Rattle.filekind.specs.declared.named.Kind.{Kind as FileKind}
use Rattle.filekind.specs.declared.named.Kind.TheVariants as kind
use Rattle.planfile.specs.Reading.{links_of, reading_refusal, stations_of}
use Rattle.refusal.specs.Code.{code_of}
use Rattle.refusal.specs.declared.Refusal.{Refusal}
use Rattle.routes.specs.Row.{Row}
use Rattle.ledger.specs.After.{after_work}
use Rattle.ledger.specs.Ledger.{Ledger}
use Rattle.ledger.specs.RouteAnswer.{RouteAnswer as Answer}
use Rattle.tables.specs.Made.{made}
use Rattle.capi.specs.Facts.{Accepts, Answered, Refuses}
use Rattle.capi.specs.Sound.{most_links}
use Rattle.capi.specs.declared.route.Found.{Found}

abbrev pub file_ledger : {K : Type 0} → Kind K → (ℕ → Option K) → List ℕ → Ledger K
file_ledger m formed bs = made (stations_of bs) most_links (links_of m formed bs)

module _ {K : Type 0} (m : Kind K) (g : Ledger K) (a b : ℕ) (xs xs' : List ℕ) where
  pub record RouteFound (r : Result Found Refusal) : Type 0 where
    pub row : Row K
    pub answer : Result ℕ Refusal
    pub routed : Answer m g row a b xs xs' answer
    pub same : MatchResult r (λ x. (answer ≡ Ok x.count) × (x.cost ≡ m.rank (row.costs b))) (λ why. answer ≡ Err why)

  pub record RouteTold (facts facts' : List ℕ) (r : ℕ) : Type 0 where
    pub found : Result Found Refusal
    pub is : RouteFound found
    pub told : MatchResult found (λ x. Accepts (x.count ∷ x.cost ∷ []) facts facts' r) (λ why. Refuses (code_of why) facts facts' r)

abbrev pub RouteIn : {K : Type 0} → Kind K → (ℕ → Option K) → Format → List ℕ → ℕ → ℕ → List ℕ → List ℕ → List ℕ → List ℕ → ℕ → Type 0
RouteIn m formed f bs a b xs xs' facts facts' r =
    Answered (reading_refusal f most_links bs) (xs' ≡ xs) facts facts' r (RouteTold m (after_work (file_ledger m formed bs) a) a b xs xs' facts facts' r)

abbrev pub RouteAs : FileKind → List ℕ → ℕ → ℕ → List ℕ → List ℕ → List ℕ → List ℕ → ℕ → Type 0
RouteAs kind.Sum bs a b xs xs' facts facts' r = RouteIn sum_kind sum_formed sum_format bs a b xs xs' facts facts' r
RouteAs kind.Split bs a b xs xs' facts facts' r = RouteIn split_kind split_formed split_format bs a b xs xs' facts facts' r

abbrev pub RouteAnswer : List ℕ → ℕ → ℕ → List ℕ → List ℕ → List ℕ → List ℕ → ℕ → Type 0
RouteAnswer bs a b xs xs' facts facts' r = RouteAs (kind_of bs) bs a b xs xs' facts facts' r
