-- What a call that changes the links comes to.
use Rattle.std.specs.Prelude.{◌≡◌, ℕ, ◌<◌, true, false, if◌then◌else◌, Option, None, Ok}
use Rattle.std.proofs.Common.{◌∙◌, ap, subst, ⊎_elim}
use Rattle.std.proofs.lemmas.Bool.{cases_Bool}
use Rattle.cost.specs.Kind.{Kind}
use Rattle.refusal.specs.declared.Code.{Code}
use Rattle.ledger.specs.Ledger.{Ledger}
use Rattle.ledger.specs.View.{cleared}
use Rattle.ledger.specs.Effects.{LinksEffect, UnmarkedClear}
use Rattle.tables.specs.declared.state.Tables.{Tables}
use Rattle.tables.specs.View.{ledger_of, row_of, view_of}
use Rattle.tables.specs.Relinked.{Relinked, Unworked}

every_row : {K : Type 0} (m : Kind K) (t t' : Tables K) → UnmarkedClear m (view_of m t) → Unworked m t t' → (a : ℕ) → a < t.stations → row_of m t' a ≡ cleared m
every_row m t t' clear left a below =
    ⊎_elim
    (λ (on : (ledger_of t).marked a ≡ true). left.rows a ∙ ap (λ b. if b then cleared m else row_of m t a) on)
    (λ (off : (ledger_of t).marked a ≡ false). left.rows a ∙ ap (λ b. if b then cleared m else row_of m t a) off ∙ clear a below off)
    (cases_Bool ((ledger_of t).marked a))

pub links_changed : {K T : Type 0} (m : Kind K) (why : Option Code) (g : Ledger K) (t t' : Tables K) (x : T) → None ≡ why → Relinked m g t t' → g.stations ≡ t.stations → LinksEffect m why g (view_of m t) (view_of m t') (Ok x)
links_changed m why g t t' x accepted left same = record {
  refusal = accepted;
  ledger = left.ledger;
  rows = λ clear a below. every_row m t t' clear left.rows a (subst (λ n. a < n) (ap (λ z. z.stations) left.ledger ∙ same) below);
  kept = tt;
}
