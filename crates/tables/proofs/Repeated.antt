-- What is done again changes nothing.
use Rattle.std.proofs.Common.{◌≡◌, ℕ, ◌<◌, ◌≤◌, List, [], ◌++◌, Option, length, drop, inr, ⊎_elim, ap, sym, ◌∙◌, arith}
use Rattle.std.proofs.lemmas.Bool.{cases_lt}
use Rattle.std.proofs.lemmas.List.{ext_get_or}
use Rattle.std.proofs.Math.Seq.{drop-append_seam}
use Rattle.cost.specs.Kind.{Kind}
use Rattle.cost.specs.declared.link.Link.{Link}
use Rattle.ledger.specs.Ledger.{Ledger}
use Rattle.planfile.specs.Fronted.{fronted}
use Rattle.planfile.specs.Reading.{links_of, stations_of}
use Rattle.tables.specs.Again.{Held}
use Rattle.tables.specs.Filled.{Filled}
use Rattle.tables.specs.Made.{Made, made}
use Rattle.tables.specs.Read.{Read}
use Rattle.tables.specs.Relinked.{Relinked}
use Rattle.tables.specs.declared.state.Tables.{Tables}

module _ {X : Type 0} where
  -- what stands at the start of a list is put there again
  fronted_twice : (new old : List X) → fronted new (fronted new old) ≡ fronted new old
  fronted_twice new old = ap (λ zs. new ++ zs) (drop-append_seam new (drop (length new) old))

  filled_twice : {k : ℕ} {x : X} {xs ys zs : List X} → Filled 0 k x xs ys → Filled 0 k x ys zs → zs ≡ ys
  filled_twice {k} {x} {xs} {ys} {zs} first again =
      ext_get_or x zs ys again.long
      (λ i within.
      ⊎_elim
      (λ (below : i < k). again.inside i x (omega arith) below ∙ sym (first.inside i x (omega arith) below))
      (λ (past : k ≤ i). again.others i x (inr past))
      (cases_lt i k))

module _ {K : Type 0} {m : Kind K} {t t' t'' : Tables K} where
  pub made_twice : {n : ℕ} → Made m n t t' → Made m n t' t'' → Held t' t''
  made_twice {n} first again = record {
    ledger = again.ledger ∙ ap (λ k. made n k []) (ap length first.list) ∙ sym first.ledger;
    list = again.list;
    costs = again.costs ∙ sym first.costs;
    predecessors = again.predecessors ∙ sym first.predecessors;
  }

  pub read_twice : {formed : ℕ → Option K} {bs : List ℕ} → Read m formed bs t t' → Read m formed bs t' t'' → Held t' t''
  read_twice {formed} {bs} first again =
      let links : List (Link K) = links_of m formed bs in
      let list : t''.list.now ≡ t'.list.now =
      again.list ∙ ap (fronted links) first.list ∙ fronted_twice links t.list.now ∙ sym first.list in
      record {
        ledger = again.ledger ∙ ap (λ n. made (stations_of bs) n links) (ap (λ (g : Ledger K). g.places) first.ledger) ∙ sym first.ledger;
        list = list;
        costs = filled_twice first.costs again.costs;
        predecessors = filled_twice first.predecessors again.predecessors;
      }

  pub linked_twice : {g : Ledger K} → Relinked m g t t' → Relinked m g t' t'' → t''.list.now ≡ t'.list.now
  linked_twice {g} first again = again.list ∙ ap (fronted g.links) first.list ∙ fronted_twice g.links t.list.now ∙ sym first.list

-- what the contract wants
pub ruleset repeated = (made_twice, read_twice, linked_twice)
