-- An entry leaves a plan over the memory that it is lent.
use Rattle.std.proofs.Common.{◌≡◌, Bool, true, false, refl, sym, subst}
use Rattle.cost.specs.Kind.{Kind}
use Rattle.tables.specs.Lent.{SameMemory}
use Rattle.tables.proofs.Memory.{memory_itself}
use Rattle.replay.specs.Moment.{Moment}
use Rattle.replay.specs.Leaves.{accepted, Changes, Leaves}
use Rattle.replay.specs.declared.entry.Entry.{Entry}
use Rattle.replay.specs.declared.entry.Entry.TheVariants.{Lay, Lift, Work, Cost, Route, Check}
use Rattle.replay.specs.declared.entry.Answer.{Answer}

unchanged : {K : Type 0} {before after : Moment K} → after ≡ before → SameMemory before.plan after.plan
unchanged {before = before} same = subst (λ (z : Moment _). SameMemory before.plan z.plan) (sym same) (memory_itself before.plan)

module _ {K : Type 0} (m : Kind K) (before after : Moment K) where
  by_change : (e : Entry K) → Changes m before after e → SameMemory before.plan after.plan
  by_change (Lay a b c) changes = changes.0.memory
  by_change (Lift a b) changes = changes.0.memory
  by_change (Work a method) changes = changes.memory
  by_change (Cost a b) changes = unchanged changes
  by_change (Route a b places) changes = unchanged changes
  by_change (Check a costs predecessors) changes = unchanged changes

pub leaves_memory : {K : Type 0} {m : Kind K} {before after : Moment K} {e : Entry K} {a : Answer K} → Leaves m before after e a
    → SameMemory before.plan after.plan
leaves_memory {m = m} {before} {after} {e} {a} leaves = by (accepted a) refl where
  by : (b : Bool) → accepted a ≡ b → SameMemory before.plan after.plan
  by true is = by_change m before after e (leaves.changes is)
  by false is = unchanged (leaves.kept is)
