-- Three faults that are easily made, and what comes of each.
--
--   recorded first l          whether the row of a first station has l's start as the predecessor of l's end; with no such row, any link is followed
--   by_recorded task s t      what t offers where prune follows such links, in place of the tight ones
--   followed_wrongly task s t the state after taking t and following what t offers by that
--   prune_of_j                row 0 of campus J, to be worked by prune with rows 1 and 2 worked
--   pruned_wrongly, pruned    the state of that task after taking stations one after the other: links followed wrongly, and by prune
--   without_cause_5           which stations of the supplier's row fail, each beside the cause, if cause 5 is left out
--   reuse_of_h rows           row 0 of campus H, to be worked by reuse with these rows worked
--   its_own_row               row 0 of campus H is marked before it is worked: it holds what it begins with, and reuse reads it
--   lost                      the state after taking station 0 by reuse, with that row
use Rattle.std.specs.Prelude.{ℕ, Bool, true, false, not, ◌==◌, List, [], ◌∷◌, Option, Some, None, if◌then◌else◌}
use Rattle.std.specs.List.{filter, fold}
use Rattle.std.specs.Option.{option_map_or}
use Rattle.cost.specs.Sum.{sum_kind}
use Rattle.cost.specs.declared.link.Link.{Link}
use Rattle.cost.specs.declared.sum.Sum.{Sum}
use Rattle.routes.specs.Failures.{failures}
use Rattle.routes.specs.Methods.{guiding, links_from, over_links, first_through}
use Rattle.routes.specs.Offers.{Offer, offered_all}
use Rattle.routes.specs.Row.{Row}
use Rattle.routes.specs.Runs.{followed, taking}
use Rattle.routes.specs.State.{State, begun, written}
use Rattle.routes.specs.Task.{Task}
use Rattle.routes.specs.declared.method.Method.TheVariants.{Reuse, Prune}
use Rattle.campuses.specs.Campuses.{campus_h, campus_j, supplied, row_j_of_1, row_j_of_2}

abbrev pub recorded : Option (Row Sum) → Link Sum → Bool
recorded None l = true
recorded (Some row) l = option_map_or (λ p. p == l.from) (row.predecessors l.to) false

abbrev pub by_recorded : Task Sum → State Sum → ℕ → List (Offer Sum)
by_recorded task s t =
    over_links sum_kind s t (first_through sum_kind task s t)
    (links_from task.network t (recorded (if t == task.source then None else guiding task.rows (s.firsts t))))

abbrev pub followed_wrongly : Task Sum → State Sum → ℕ → State Sum
followed_wrongly task s t = offered_all sum_kind (taking s t) (by_recorded task s t)

abbrev pub prune_of_j : Task Sum
prune_of_j = record {
  network = campus_j;
  rows = written (written (λ v. None) 1 (Some row_j_of_1)) 2 (Some row_j_of_2);
  source = 0;
  method = Prune;
}

abbrev pub pruned_wrongly : State Sum
pruned_wrongly = fold (followed_wrongly prune_of_j) (begun sum_kind prune_of_j) (0 ∷ 1 ∷ 2 ∷ 6 ∷ 7 ∷ 3 ∷ 4 ∷ [])

abbrev pub pruned : State Sum
pruned = fold (followed sum_kind prune_of_j) (begun sum_kind prune_of_j) (0 ∷ 1 ∷ 2 ∷ 6 ∷ 7 ∷ 3 ∷ 4 ∷ 5 ∷ [])

abbrev pub without_cause_5 : List (ℕ × ℕ)
without_cause_5 = filter (λ p. not (p.1 == 5)) (failures sum_kind campus_h 0 supplied)

abbrev pub reuse_of_h : (ℕ → Option (Row Sum)) → Task Sum
reuse_of_h rows = record { network = campus_h; rows = rows; source = 0; method = Reuse }

abbrev pub its_own_row : Task Sum
its_own_row = reuse_of_h (written (λ v. None) 0 (Some (begun sum_kind (reuse_of_h (λ v. None))).row))

abbrev pub lost : State Sum
lost = fold (followed sum_kind its_own_row) (begun sum_kind its_own_row) (0 ∷ [])
