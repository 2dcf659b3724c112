-- A route that is asked for once its row is worked.
use Rattle.std.specs.Prelude.{◌≡◌, ℕ, Bool, true, false, List, Some, None, Option, Err}
use Rattle.std.proofs.Common.{◌∙◌, refl, sym}
use Rattle.cost.specs.Kind.{Kind}
use Rattle.refusal.specs.Code.{bare, code_of}
use Rattle.refusal.specs.First.{refused_if}
use Rattle.refusal.specs.declared.Code.{Code}
use Rattle.refusal.specs.declared.Refusal.{Refusal}
use Rattle.routes.specs.Row.{Row}
use Rattle.ledger.specs.After.{after_work}
use Rattle.ledger.specs.Ledger.{Ledger}
use Rattle.ledger.specs.Refusals.{cost_refusal, work_refusal}
use Rattle.ledger.specs.RouteAnswer.{RouteAnswer, route_refusal}

-- the refusals of a cost are the first ones of a route
refused_alike : (t u : Bool) (rest : Option Code) (c : Code) → Some c ≡ refused_if t (bare 3) (refused_if u (bare 10) None) → refused_if t (bare 3) (refused_if u (bare 10) rest) ≡ Some c
refused_alike true u rest c some = sym some
refused_alike false true rest c some = sym some
refused_alike false false rest c some = absurd (cc some)

module _ {K : Type 0} (m : Kind K) (g : Ledger K) (row : Row K) (a b : ℕ) (xs : List ℕ) where
  -- a refusal of the cost is one of the route
  pub refused_early : (why : Refusal) → Some (code_of why) ≡ cost_refusal g a b → RouteAnswer m g row a b xs xs (Err why)
  refused_early why some =
      let refusal : route_refusal m g row a b ≡ Some (code_of why) = refused_alike _ _ _ (code_of why) some in record {
        refused = λ code is. sym refusal ∙ is;
        least = λ none. absurd (cc (some ∙ none));
        routed = λ none. absurd (cc (sym refusal ∙ none));
        kept = refl;
      }

-- where no row is worked, a work is refused for its station alone
no_source : (t u : Bool) (c : Code) → u ≡ false → Some c ≡ refused_if t (bare 3) (refused_if u (bare 9) None) → (t ≡ true) × (c ≡ bare 3)
no_source true u c off some = (refl, cc some)
no_source false true c off some = absurd (cc off)
no_source false false c off some = absurd (cc some)

pub refused_work : {K : Type 0} (g : Ledger K) (a b : ℕ) (c : Code) → g.marked a ≡ false → Some c ≡ work_refusal g a → Some c ≡ cost_refusal (after_work g a) a b
refused_work g a b c off some = let none = no_source _ _ c off some in rw (none.0, none.1) refl
