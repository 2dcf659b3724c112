use Rattle.std.proofs.Common.{sym}
use Rattle.capi.proofs.Answering.{refused_answer}
use Rattle.capi.proofs.whole.sound.Goals as goal

pub returns-in-Err : goal.returns-in-Err
returns-in-Err g c = record { answer = refused_answer _ (sym (rw c.requires.list at c.in-Err.ensures.refused)) (rw c.code.ensures.value at c.refuse.ensures.refuses) tt }
