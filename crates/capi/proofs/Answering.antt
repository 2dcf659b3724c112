-- What is told of a call that is refused, or accepted.
use Rattle.std.specs.Prelude.{◌≡◌, ℕ, List, Some, None, Option}
use Rattle.refusal.specs.declared.Code.{Code}
use Rattle.capi.specs.Facts.{Answered, Refuses}

pub refused_answer : {kept : Type 0} (accepted : Type 0) {facts facts' : List ℕ} {r : ℕ} {refusal : Option Code} {c : Code} → refusal ≡ Some c → Refuses c facts facts' r → kept → Answered refusal kept facts facts' r accepted
refused_answer accepted is refuses stays = rw is (refuses, stays)

pub accepted_answer : {accepted : Type 0} (kept : Type 0) (facts facts' : List ℕ) (r : ℕ) {refusal : Option Code} → refusal ≡ None → accepted → Answered refusal kept facts facts' r accepted
accepted_answer kept facts facts' r none so = rw none so
