-- Where all rows are worked, a plan's lines are those of all pairs, each at the least cost.
use Rattle.std.proofs.Common.{◌≡◌, ℕ, ◌<◌, ◌++◌, true, List, length, ap, subst, ◌∙◌}
use Rattle.cost.specs.Kind.{Kind}
use Rattle.filekind.specs.Format.{Format}
use Rattle.account.specs.Lines.{head_line}
use Rattle.routes.specs.Network.{Network}
use Rattle.ledger.specs.Ledger.{Ledger, network}
use Rattle.ledger.specs.Log.{Entry}
use Rattle.ledger.specs.Stands.{Stands}
use Rattle.ledger.specs.View.{View}
use Rattle.listing.proofs.Ranges.{told_alike}
use Rattle.listing.specs.Lines.{cost_line, pair_lines, pairs_text, table_text}
use Rattle.listing.specs.Report.{Listed}

module _ {K : Type 0} (m : Kind K) where
  all_pairs : (v : View K) → ((a : ℕ) → a < v.ledger.stations → v.ledger.marked a ≡ true)
      → table_text m v ≡ pairs_text m v.ledger.stations (λ a b. (v.rows a).costs b)
  all_pairs v marked =
      told_alike _ _ v.ledger.stations
      (λ a there. told_alike (pair_lines m v a) (λ b. cost_line m a b ((v.rows a).costs b)) v.ledger.stations (λ b _. rw (marked a there)))

  -- a plan that stands, with all rows worked, on these stations and links
  pub listed : (f : Format) {start : Ledger K} {log : List (Entry K)} {v : View K} → Stands m start log v → (net : Network K) → network v.ledger ≡ net
      → ((a : ℕ) → a < v.ledger.stations → v.ledger.marked a ≡ true) → (text : List ℕ)
      → text ≡ head_line f (record { stations = v.ledger.stations; links = length v.ledger.links }) ++ table_text m v → Listed m f net text
  listed f {v = v} stands net same marked text is =
      subst (λ (z : Network K). Listed m f z text) same
      (record {
        costs = λ a b. (v.rows a).costs b;
        least = λ a b here there. (stands.holds.marked a here (marked a here)).least b there;
        lines = is ∙ ap (λ xs. head_line f (record { stations = v.ledger.stations; links = length v.ledger.links }) ++ xs) (all_pairs v marked);
      })
