-- How a plan stands at the start of its log, and after one entry more.
use Rattle.std.proofs.Common.{◌≡◌, ◌≤◌, List, [], ◌∷◌, ◌++◌, ℕ, Bool, subst, sym, ap, ◌∙◌}
use Rattle.std.proofs.lemmas.Bool.{true≢false}
use Rattle.cost.specs.Kind.{Kind}
use Rattle.queue.specs.Meaning.{most_stations}
use Rattle.ledger.specs.Ledger.{Ledger, network, unmarked}
use Rattle.ledger.specs.View.{View}
use Rattle.ledger.specs.Fair.{Fair}
use Rattle.ledger.specs.Log.{Entry, entered}
use Rattle.ledger.specs.Starts.{Starts}
use Rattle.ledger.specs.Holds.{Holds}
use Rattle.ledger.specs.Stands.{Stands}
use Rattle.ledger.specs.Effects.{AllCleared}
use Rattle.ledger.proofs.Entered.{reckon_on}

module _ {K : Type 0} {m : Kind K} where
  -- with no row marked and all of them cleared
  pub unmarked_holds : {g : Ledger K} {v : View K} → g.stations ≤ most_stations → Fair m (network g) → g.marked ≡ unmarked → v.ledger ≡ g
      → AllCleared m v → Holds m v
  unmarked_holds {g} {v} few fair none is all_cleared = record {
    not_too_many = subst (λ (z : Ledger K). z.stations ≤ most_stations) (sym is) few;
    fair = subst (λ (z : Ledger K). Fair m (network z)) (sym is) fair;
    marked = λ a there on. absurd (true≢false (sym on ∙ ap (λ (z : Ledger K). z.marked a) is ∙ ap (λ (f : ℕ → Bool). f a) none));
    unmarked = λ a there off. all_cleared a there;
  }

  -- at the start of its log
  pub start_stands : {start : Ledger K} {v : View K} → Starts m start → v.ledger ≡ start → AllCleared m v → Stands m start [] v
  start_stands c is all_cleared =
      record { starts = c; reckoned = is; holds = unmarked_holds c.not_too_many c.fair c.none_marked is all_cleared }

  module _ {start : Ledger K} {log : List (Entry K)} where
    -- after one entry more, by which tables hold what they have to
    pub stands_next : {v w : View K} → Stands m start log v → (e : Entry K) → w.ledger ≡ entered m v.ledger e → Holds m w → Stands m start (log ++ e ∷ []) w
    stands_next stands e next holds = record {
      starts = stands.starts;
      reckoned = next ∙ ap (λ (z : Ledger K). entered m z e) stands.reckoned ∙ sym (reckon_on m start log (e ∷ []));
      holds = holds;
    }

    -- an entry that changes nothing
    pub stands_still : {v w : View K} → Stands m start log v → (e : Entry K) → entered m v.ledger e ≡ v.ledger → w ≡ v
        → Stands m start (log ++ e ∷ []) w
    stands_still {v} {w} stands e same is =
        subst (λ (z : View K). Stands m start (log ++ e ∷ []) z) (sym is) (stands_next stands e (sym same) stands.holds)
