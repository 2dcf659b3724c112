-- Working rows leaves a plan over the memory that it is lent.
use Rattle.std.proofs.Common.{◌≡◌, ℕ, List, Result, Ok, Err, OnOk, OnErr, sym, subst}
use Rattle.cost.specs.Kind.{Kind}
use Rattle.queue.specs.Meaning.{Meaning}
use Rattle.refusal.specs.declared.Refusal.{Refusal}
use Rattle.routes.specs.declared.method.Method.{Method}
use Rattle.tables.specs.Lent.{SameMemory}
use Rattle.tables.specs.Working.{RowFilled}
use Rattle.tables.specs.declared.state.Tables.{Tables}
use Rattle.tables.proofs.Memory.{memory_itself, memory_twice}
use Rattle.listing.specs.AllRows.{AllWorked, RowWorked, none, one_more}
use Rattle.listing.specs.InTurn.{InTurn, none as no_turn, one_more as one_turn}

by_answer : {K T : Type 0} (a : ℕ) {p p' : Tables K} (r : Result T Refusal) → OnOk r (RowFilled a p p') → OnErr r (p' ≡ p) → SameMemory p p'
by_answer a (Ok x) filled same = filled.memory
by_answer a {p = p} (Err e) filled same = subst (SameMemory p) (sym same) (memory_itself p)

module _ {K : Type 0} {m : Kind K} {method : Method} {p : Tables K} {q : Meaning} where
  row_memory : {a : ℕ} {p' : Tables K} {q' : Meaning} → RowWorked m method a p q p' q' → SameMemory p p'
  row_memory {a} worked = by_answer a worked.answer worked.left worked.same

module _ {K : Type 0} {m : Kind K} {method : Method} {p : Tables K} {q : Meaning} where
  pub all_memory : {n : ℕ} {p' : Tables K} {q' : Meaning} → AllWorked m method p q n p' q' → SameMemory p p'
  all_memory none = memory_itself p
  all_memory (one_more rows worked) = memory_twice (all_memory rows) (row_memory worked)

  pub turn_memory : {sources : List ℕ} {p' : Tables K} {q' : Meaning} → InTurn m method p q sources p' q' → SameMemory p p'
  turn_memory no_turn = memory_itself p
  turn_memory (one_turn rows worked) = memory_twice (turn_memory rows) (row_memory worked)
