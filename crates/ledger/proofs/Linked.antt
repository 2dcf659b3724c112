-- Laying and lifting a link.
use Rattle.std.proofs.Common.{◌≡◌, ℕ, List, [], ◌∷◌, ◌++◌, Option, None, Result, Ok, Err, refl, subst, sym, ◌∙◌, arith}
use Rattle.cost.specs.Kind.{Kind}
use Rattle.refusal.specs.Code.{code_of}
use Rattle.refusal.specs.declared.Code.{Code}
use Rattle.refusal.specs.declared.Refusal.{Refusal}
use Rattle.ledger.specs.Ledger.{Ledger, network, unmarked}
use Rattle.ledger.specs.Refusals.{lay_refusal, lift_refusal}
use Rattle.ledger.specs.After.{after_lay, after_lift}
use Rattle.ledger.specs.View.{View}
use Rattle.ledger.specs.Fair.{Fair}
use Rattle.ledger.specs.Log.{Entry, lay, lift, unless, entered, reckon}
use Rattle.ledger.specs.Stands.{Stands}
use Rattle.ledger.specs.Answers.{LayAnswer, LiftAnswer}
use Rattle.ledger.specs.Effects.{LinksEffect, LayEffect, LiftEffect}
use Rattle.ledger.proofs.FairKept.{fair_laid, fair_lifted}
use Rattle.ledger.proofs.Entered.{unless_none, unless_some}
use Rattle.ledger.proofs.Stood.{unmarked_holds, stands_next, stands_still}

module _ {K T : Type 0} {m : Kind K} {start : Ledger K} {log : List (Entry K)} {before after : View K} (stands : Stands m start log before) where
  -- a call that changes the links
  links_stand : (e : Entry K) (why : Option Code) (g : Ledger K) (r : Result T Refusal)
      → entered m before.ledger e ≡ unless why before.ledger g → g.stations ≡ before.ledger.stations → g.marked ≡ unmarked
      → (why ≡ None → Fair m (network g)) → LinksEffect m why g before after r → Stands m start (log ++ e ∷ []) after
  links_stand e why g (Ok x) enters same none fair effect =
      let accepted : why ≡ None = sym effect.refusal in
      stands_next stands e
      (effect.ledger ∙ sym (unless_none why before.ledger g accepted) ∙ sym enters)
      (unmarked_holds (omega (arith, stands.holds.not_too_many)) (fair accepted) none effect.ledger (effect.rows stands.holds.unmarked))
  links_stand e why g (Err refusal) enters same none fair effect =
      stands_still stands e (enters ∙ unless_some why before.ledger g (code_of refusal) (sym effect.refusal)) effect.kept

  pub lay_stands : (a b : ℕ) (c : K) {r : Result T Refusal} → LayEffect m before after a b c r → Stands m start (log ++ lay a b c ∷ []) after
  lay_stands a b c {r} effect =
      let g = before.ledger in
      links_stand (lay a b c) (lay_refusal m g a b c) (after_lay g a b c) r refl refl refl (fair_laid m g a b c stands.holds.fair) effect

  pub lift_stands : (a b : ℕ) {r : Result T Refusal} → LiftEffect m before after a b r → Stands m start (log ++ lift a b ∷ []) after
  lift_stands a b {r} effect =
      let g = before.ledger in
      links_stand (lift a b) (lift_refusal g a b) (after_lift g a b) r refl refl refl (λ none. fair_lifted m g a b stands.holds.fair) effect

  pub lay_answers : (a b : ℕ) (c : K) {r : Result T Refusal} → LayEffect m before after a b c r → LayAnswer m (reckon m start log) a b c r
  lay_answers a b c {r} effect = subst (λ (g : Ledger K). LayAnswer m g a b c r) stands.reckoned effect.refusal

  pub lift_answers : (a b : ℕ) {r : Result T Refusal} → LiftEffect m before after a b r → LiftAnswer (reckon m start log) a b r
  lift_answers a b {r} effect = subst (λ (g : Ledger K). LiftAnswer g a b r) stands.reckoned effect.refusal

-- what the contracts want
pub ruleset laid = (lay_stands, lay_answers)

pub ruleset lifted = (lift_stands, lift_answers)
