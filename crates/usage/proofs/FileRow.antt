-- A row that was worked after a file was read stands in the memory that was lent.
use Rattle.std.proofs.Common.{◌≡◌, ◌∙◌, ℕ, List, [], Option, Result, Ok, Err, OnOk, ap, subst, sym}
use Rattle.cost.specs.Kind.{Kind}
use Rattle.cost.specs.declared.link.Link.{Link}
use Rattle.queue.specs.Meaning.{Meaning}
use Rattle.refusal.specs.declared.Refusal.{Refusal}
use Rattle.routes.specs.Row.{Right}
use Rattle.routes.specs.declared.method.Method.{Method}
use Rattle.planfile.specs.Fronted.{fronted}
use Rattle.planfile.specs.Reading.{links_of, stations_of}
use Rattle.ledger.specs.Answers.{WorkAnswer}
use Rattle.ledger.specs.Ledger.{Ledger}
use Rattle.ledger.specs.Logged.{Reckoned}
use Rattle.ledger.specs.Stands.{Stands}
use Rattle.tables.specs.Made.{made}
use Rattle.tables.specs.Read.{Read}
use Rattle.tables.specs.View.{row_in, view_of}
use Rattle.tables.specs.Working.{RowFilled}
use Rattle.tables.specs.declared.state.Tables.{Tables}
use Rattle.listing.specs.Report.{file_network}
use Rattle.usage.specs.Lent.{RowHeld}

module _ {K : Type 0} (m : Kind K) (formed : ℕ → Option K) (bs : List ℕ) (a places : ℕ) (method : Method) (queue : Meaning) (s t u : Tables K) where
  pub file_row : {T : Type 0} (r : Result T Refusal) (costs : List K) (predecessors : List ℕ) → Read m formed bs s t
      → Stands m (made (stations_of bs) places (links_of m formed bs)) [] (view_of m t)
      → Reckoned m (view_of m t) (λ g. WorkAnswer m g (view_of m t).rows a method r ((view_of m u).rows a) queue)
      → OnOk r (RowFilled a t u) → costs ≡ u.costs.now → predecessors ≡ u.predecessors.now
      → OnOk r (RowHeld m formed bs a costs predecessors)
  file_row (Err e) costs predecessors read stands answer filled here there = tt
  file_row (Ok x) costs predecessors read stands answer filled here there =
      let right = (answer.by_ledger (made (stations_of bs) places (links_of m formed bs)) [] stands).worked.right in
      let stations : u.stations ≡ stations_of bs = filled.stations ∙ ap (λ (g : Ledger K). g.stations) read.ledger in
      subst (λ n. Right m (file_network m formed bs) a (row_in m n costs predecessors a)) stations
      (subst (λ xs. Right m (file_network m formed bs) a (row_in m u.stations xs predecessors a)) (sym here)
      (subst (λ ys. Right m (file_network m formed bs) a (row_in m u.stations u.costs.now ys a)) (sym there) right))

-- so does the list, with the links of the file at its start
pub file_list : {K T : Type 0} (m : Kind K) (formed : ℕ → Option K) (bs : List ℕ) (a : ℕ) (s t u : Tables K) (r : Result T Refusal) (list before : List (Link K)) → Read m formed bs s t → OnOk r (RowFilled a t u) → list ≡ u.list.now
    → s.list.now ≡ before → OnOk r (list ≡ fronted (links_of m formed bs) before)
file_list m formed bs a s t u (Err e) list before read filled here there = tt
file_list m formed bs a s t u (Ok x) list before read filled here there = here ∙ filled.list ∙ read.list ∙ ap (fronted (links_of m formed bs)) there
