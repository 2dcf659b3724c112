-- The pool of places into which routes are written.
--
--   part es i e pool                    the part of the pool for entry i of es, which is e: it follows those of the entries before it
--   replay_refusal es places answers    a pool of so many places, and room for so many answers, have to suffice for the entries es
use Rattle.std.specs.Prelude.{ℕ, ◌||◌, nat_lt, List, length, take, drop, Option, None}
use Rattle.std.specs.List.{sum_by}
use Rattle.refusal.specs.Code.{bare}
use Rattle.refusal.specs.First.{refused_if}
use Rattle.refusal.specs.declared.Code.{Code}
use Rattle.replay.specs.Entries.{places_of}
use Rattle.replay.specs.declared.entry.Entry.{Entry}

module _ {K : Type 0} where
  abbrev pub part : List (Entry K) → ℕ → Entry K → List ℕ → List ℕ
  part es i e pool = take (places_of e) (drop (sum_by places_of (take i es)) pool)

  abbrev pub replay_refusal : List (Entry K) → ℕ → ℕ → Option Code
  replay_refusal es places answers = refused_if (nat_lt answers (length es) || nat_lt places (sum_by places_of es)) (bare 12) None
