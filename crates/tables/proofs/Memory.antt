-- The same memory, over several steps.
use Rattle.std.proofs.Common.{◌∙◌, refl}
use Rattle.tables.specs.declared.state.Tables.{Tables}
use Rattle.tables.specs.Lent.{SameMemory}

module _ {K : Type 0} where
  pub memory_itself : (t : Tables K) → SameMemory t t
  memory_itself t = record { list = refl; costs = refl; predecessors = refl }

  pub memory_twice : {t t' t'' : Tables K} → SameMemory t t' → SameMemory t' t'' → SameMemory t t''
  memory_twice one two = record { list = two.list ∙ one.list; costs = two.costs ∙ one.costs; predecessors = two.predecessors ∙ one.predecessors }
