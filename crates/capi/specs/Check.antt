-- The test of a supplier's row against the links of a plan file.
--
--   costs_of m formed xs     the costs of the numbers xs; one that is no cost's number, as 0 in split, stands for FAR
--   CheckTold m g a costs ys facts facts' r   the test is told: no facts, or the refusal
--   CheckIn m formed f bs a xs ys ..          the file is refused, or that
--   CheckAnswer bs a xs ys ..                 that, for the kind that the file's kind byte names
use Rattle.std.specs.Prelude.{ℕ, List, [], map, Option, Result, MatchResult}
use Rattle.std.specs.Option.{unwrap_or}
use Rattle.cost.specs.Kind.{Kind}
use Rattle.cost.specs.Split.{split_formed, split_kind}
use Rattle.cost.specs.Sum.{sum_formed, sum_kind}
use Rattle.filekind.specs.Format.{Format, split_format, sum_format}
use Rattle.filekind.specs.Named.{kind_of}
use Rattle.filekind.specs.declared.named.Kind.{Kind as FileKind}
use Rattle.filekind.specs.declared.named.Kind.TheVariants as kind
use Rattle.planfile.specs.Reading.{reading_refusal}
use Rattle.refusal.specs.Code.{code_of}
use Rattle.refusal.specs.declared.Refusal.{Refusal}
use Rattle.ledger.specs.CheckAnswer.{CheckAnswer as Answer}
use Rattle.ledger.specs.Ledger.{Ledger}
use Rattle.capi.specs.Facts.{Accepts, Answered, Refuses}
use Rattle.capi.specs.Route.{file_ledger}
use Rattle.capi.specs.Sound.{most_links}

abbrev pub costs_of : {K : Type 0} → Kind K → (ℕ → Option K) → List ℕ → List K
costs_of m formed xs = map (λ x. unwrap_or (formed x) m.far) xs

pub record CheckTold {K : Type 0} (m : Kind K) (g : Ledger K) (a : ℕ) (costs : List K) (ys facts facts' : List ℕ) (r : ℕ) : Type 0 where
  pub answer : Result Unit Refusal
  pub tested : Answer m g a costs ys answer
  pub told : MatchResult answer (λ x. Accepts [] facts facts' r) (λ why. Refuses (code_of why) facts facts' r)

abbrev pub CheckIn : {K : Type 0} → Kind K → (ℕ → Option K) → Format → List ℕ → ℕ → List ℕ → List ℕ → List ℕ → List ℕ → ℕ → Type 0
CheckIn m formed f bs a xs ys facts facts' r =
    Answered (reading_refusal f most_links bs) Unit facts facts' r (CheckTold m (file_ledger m formed bs) a (costs_of m formed xs) ys facts facts' r)

abbrev pub CheckAs : FileKind → List ℕ → ℕ → List ℕ → List ℕ → List ℕ → List ℕ → ℕ → Type 0
CheckAs kind.Sum bs a xs ys facts facts' r = CheckIn sum_kind sum_formed sum_format bs a xs ys facts facts' r
CheckAs kind.Split bs a xs ys facts facts' r = CheckIn split_kind split_formed split_format bs a xs ys facts facts' r

abbrev pub CheckAnswer : List ℕ → ℕ → List ℕ → List ℕ → List ℕ → List ℕ → ℕ → Type 0
CheckAnswer bs a xs ys facts facts' r = CheckAs (kind_of bs) bs a xs ys facts facts' r
