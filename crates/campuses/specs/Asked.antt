-- The calls on both campuses, each beside its reply by hand.
--
--   coded r         an answer, with a refusal by its code
--   ranked r        ... and with a cost by its rank
--   Reply           what a call tells: that it is accepted, or a number, or the code of a refusal; a cost by its rank
--   reply a         what an answer tells
--   Asked           a call, its reply, and what then stands in its places for a route, which held 0
--   asked           a call that has no places, with its reply
--   asked_of_h      the calls on campus H
--   asked_of_j      the calls on campus J
--   spots xs        what stands in the places of all of them, one after the other
use Rattle.std.specs.Prelude.{ℕ, ⊤, List, [], ◌∷◌, ◌++◌, map, Result, Ok, Err}
use Rattle.cost.specs.Kind.{FAR}
use Rattle.cost.specs.Sum.{sum_kind, sum_cost}
use Rattle.cost.specs.declared.sum.Sum.{Sum}
use Rattle.refusal.specs.Code.{bare, code_of}
use Rattle.refusal.specs.declared.Code.{Code}
use Rattle.refusal.specs.declared.Facts.TheVariants.{AtStation}
use Rattle.refusal.specs.declared.Refusal.{Refusal}
use Rattle.routes.specs.declared.method.Method.TheVariants.{Plain, Reuse, Prune}
use Rattle.ledger.specs.Log.{Entry, lay, work, cost, route, check}
use Rattle.replay.specs.declared.entry.Answer.{Answer}
use Rattle.replay.specs.declared.entry.Answer.TheVariants.{Lay, Lift, Work, Cost, Route, Check}

abbrev pub coded : {T : Type 0} → Result T Refusal → Result T Code
coded (Ok x) = Ok x
coded (Err e) = Err (code_of e)

abbrev pub ranked : Result Sum Code → Result ℕ Code
ranked (Ok c) = Ok (sum_kind.rank c)
ranked (Err e) = Err e

pub data Reply : Type 0 where
  laid : Result ⊤ Code → Reply
  lifted : Result ⊤ Code → Reply
  worked : Result ℕ Code → Reply
  costed : Result ℕ Code → Reply
  routed : Result ℕ Code → Reply
  checked : Result ⊤ Code → Reply

abbrev pub reply : Answer Sum → Reply
reply (Lay r) = laid (coded r)
reply (Lift r) = lifted (coded r)
reply (Work r) = worked (coded r)
reply (Cost r) = costed (ranked (coded r))
reply (Route r) = routed (coded r)
reply (Check r) = checked (coded r)

pub record Asked : Type 0 where
  pub call : Entry Sum
  pub reply : Reply
  pub places : List ℕ

abbrev pub spots : List Asked → List ℕ
spots [] = []
spots (x ∷ xs) = x.places ++ spots xs

abbrev pub asked : Entry Sum → Reply → Asked
asked call reply = record { call = call; reply = reply; places = [] }

abbrev pub asked_of_h : List Asked
asked_of_h =
    asked (lay 0 1 (sum_cost 4)) (laid (Ok tt))
    ∷ asked (lay 0 2 (sum_cost 1)) (laid (Ok tt))
    ∷ asked (lay 2 1 (sum_cost 2)) (laid (Ok tt))
    ∷ asked (lay 1 3 (sum_cost 5)) (laid (Ok tt))
    ∷ asked (lay 2 3 (sum_cost 8)) (laid (Ok tt))
    ∷ asked (work 0 Plain) (worked (Ok 4))
    ∷ asked (work 4 Reuse) (worked (Ok 1))
    ∷ asked (cost 0 0) (costed (Ok 0))
    ∷ asked (cost 0 1) (costed (Ok 3))
    ∷ asked (cost 0 2) (costed (Ok 1))
    ∷ asked (cost 0 3) (costed (Ok 8))
    ∷ asked (cost 0 4) (costed (Ok FAR))
    ∷ record { call = route 0 3 5; reply = routed (Ok 4); places = 0 ∷ 2 ∷ 1 ∷ 3 ∷ 0 ∷ [] }
    ∷ record { call = route 0 3 3; reply = routed (Err (bare 12)); places = 0 ∷ 0 ∷ 0 ∷ [] }
    ∷ asked (cost 4 4) (costed (Ok 0))
    ∷ record { call = route 4 4 1; reply = routed (Ok 1); places = 4 ∷ [] }
    ∷ asked (check 0 (map sum_cost (0 ∷ 3 ∷ 1 ∷ 9 ∷ FAR ∷ [])) (65535 ∷ 2 ∷ 0 ∷ 2 ∷ 65535 ∷ []))
    (checked (Err (record { number = 14; facts = AtStation (record { station = 3; cause = 5 }) })))
    ∷ []

abbrev pub asked_of_j : List Asked
asked_of_j =
    asked (lay 0 1 (sum_cost 1)) (laid (Ok tt))
    ∷ asked (lay 0 2 (sum_cost 1)) (laid (Ok tt))
    ∷ asked (lay 1 6 (sum_cost 1)) (laid (Ok tt))
    ∷ asked (lay 6 3 (sum_cost 1)) (laid (Ok tt))
    ∷ asked (lay 2 7 (sum_cost 1)) (laid (Ok tt))
    ∷ asked (lay 7 4 (sum_cost 1)) (laid (Ok tt))
    ∷ asked (lay 3 5 (sum_cost 1)) (laid (Ok tt))
    ∷ asked (lay 4 5 (sum_cost 1)) (laid (Ok tt))
    ∷ asked (lay 2 3 (sum_cost 2)) (laid (Ok tt))
    ∷ asked (lay 1 4 (sum_cost 2)) (laid (Ok tt))
    ∷ asked (work 1 Plain) (worked (Ok 5))
    ∷ asked (work 2 Plain) (worked (Ok 5))
    ∷ asked (work 0 Prune) (worked (Ok 8))
    ∷ asked (cost 0 5) (costed (Ok 4))
    ∷ []
