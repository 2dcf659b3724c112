-- The six stations as tables: beside what the definitions compute stands what the rules give, worked out apart from them.
--
--   Shown, shown n s     a state of n stations: labels, predecessors, first stations, who waits at which rank, and the number taken
--   steps task xs        the states as the stations xs are taken one after the other
--   failing row          which stations of a row for source 0 fail, each beside the cause
--   changed_at B c p     the right row of source 0, but cost c and predecessor p for station B
--   computed_steps, hand_steps          runs of plain, of reuse with row 2, of reuse with the source's own row, and of prune
--   computed_failures, hand_failures    what fails in the right row, and in eleven wrong ones
--   computed_tight, hand_tight          which links are tight in row 2, and a ninth one between two stations at FAR; and in row 2 with
--                                       cost 9 for station 3
use Rattle.std.specs.Prelude.{ℕ, ◌+◌, Bool, true, false, List, [], ◌∷◌, ◌++◌, length, map, take, Option, Some, None}
use Rattle.std.specs.List.{range_with_len}
use Rattle.cost.specs.Kind.{FAR}
use Rattle.cost.specs.Sum.{sum_kind, sum_cost}
use Rattle.cost.specs.declared.sum.Sum.{Sum}
use Rattle.routes.specs.Row.{Row}
use Rattle.routes.specs.Failures.{failures}
use Rattle.routes.specs.Task.{Task}
use Rattle.routes.specs.State.{State, written}
use Rattle.routes.specs.Methods.{tight}
use Rattle.routes.specs.Six.{link, six, row_of_zero, row_of_two, two_worked, both_worked, to_work, after}
use Rattle.routes.specs.declared.method.Method.TheVariants.{Plain, Reuse, Prune}

pub record Shown : Type 0 where
  pub labels : List ℕ
  pub predecessors : List (Option ℕ)
  pub firsts : List (Option ℕ)
  pub waiting : List (Option ℕ)
  pub taken : ℕ

-- the labels of n stations
abbrev pub numbers : ℕ → State Sum → List ℕ
numbers n s = map (λ v. sum_kind.rank (s.row.costs v)) (range_with_len 0 n)

abbrev pub shown : ℕ → State Sum → Shown
shown n s = record {
  labels = numbers n s;
  predecessors = map s.row.predecessors (range_with_len 0 n);
  firsts = map s.firsts (range_with_len 0 n);
  waiting = map s.queue.ranks (range_with_len 0 n);
  taken = s.queue.taken;
}

abbrev pub steps : Task Sum → List ℕ → List Shown
steps task xs = map (λ k. shown 6 (after task (take k xs))) (range_with_len 0 (length xs + 1))

abbrev pub computed_steps : List (List Shown)
computed_steps =
    steps (to_work Plain both_worked) (0 ∷ 2 ∷ 1 ∷ 3 ∷ 4 ∷ [])
    ∷ steps (to_work Reuse two_worked) (0 ∷ 2 ∷ 1 ∷ [])
    ∷ steps (to_work Reuse both_worked) (0 ∷ [])
    ∷ steps (to_work Prune both_worked) (0 ∷ 2 ∷ 1 ∷ 3 ∷ 4 ∷ [])
    ∷ []

abbrev pub by_hand : List ℕ → List (Option ℕ) → List (Option ℕ) → List (Option ℕ) → ℕ → Shown
by_hand labels predecessors firsts waiting taken = record { labels = labels; predecessors = predecessors; firsts = firsts; waiting = waiting; taken = taken }

abbrev pub nobody : List (Option ℕ)
nobody = None ∷ None ∷ None ∷ None ∷ None ∷ None ∷ []

abbrev pub at_start : Shown
at_start = by_hand (0 ∷ FAR ∷ FAR ∷ FAR ∷ FAR ∷ FAR ∷ []) nobody nobody (Some 0 ∷ None ∷ None ∷ None ∷ None ∷ None ∷ []) 0

-- the labels and predecessors in the end
abbrev pub final : List ℕ
final = 0 ∷ 3 ∷ 1 ∷ 8 ∷ 9 ∷ FAR ∷ []

abbrev pub at_last : List (Option ℕ)
at_last = None ∷ Some 2 ∷ Some 0 ∷ Some 1 ∷ Some 3 ∷ None ∷ []

abbrev pub hand_steps : List (List Shown)
hand_steps =
    (at_start
    ∷ by_hand (0 ∷ 4 ∷ 1 ∷ FAR ∷ FAR ∷ FAR ∷ []) (None ∷ Some 0 ∷ Some 0 ∷ None ∷ None ∷ None ∷ []) nobody (None ∷ Some 4 ∷ Some 1 ∷ None ∷ None ∷ None ∷ []) 1
    ∷ by_hand (0 ∷ 3 ∷ 1 ∷ 9 ∷ FAR ∷ FAR ∷ []) (None ∷ Some 2 ∷ Some 0 ∷ Some 2 ∷ None ∷ None ∷ []) nobody (None ∷ Some 3 ∷ None ∷ Some 9 ∷ None ∷ None ∷ []) 2
    ∷ by_hand (0 ∷ 3 ∷ 1 ∷ 8 ∷ 12 ∷ FAR ∷ []) (None ∷ Some 2 ∷ Some 0 ∷ Some 1 ∷ Some 1 ∷ None ∷ []) nobody (None ∷ None ∷ None ∷ Some 8 ∷ Some 12 ∷ None ∷ []) 3
    ∷ by_hand final at_last nobody (None ∷ None ∷ None ∷ None ∷ Some 9 ∷ None ∷ []) 4
    ∷ by_hand final at_last nobody nobody 5
    ∷ [])
    ∷ (at_start
    ∷ by_hand (0 ∷ 4 ∷ 1 ∷ FAR ∷ FAR ∷ FAR ∷ []) (None ∷ Some 0 ∷ Some 0 ∷ None ∷ None ∷ None ∷ []) nobody (None ∷ Some 4 ∷ Some 1 ∷ None ∷ None ∷ None ∷ []) 1
    ∷ by_hand final at_last nobody (None ∷ Some 3 ∷ None ∷ None ∷ None ∷ None ∷ []) 2
    ∷ by_hand final at_last nobody nobody 3
    ∷ [])
    ∷ (at_start
    ∷ by_hand final at_last nobody nobody 1
    ∷ [])
    ∷ (at_start
    ∷ by_hand (0 ∷ 4 ∷ 1 ∷ FAR ∷ FAR ∷ FAR ∷ []) (None ∷ Some 0 ∷ Some 0 ∷ None ∷ None ∷ None ∷ []) (None ∷ Some 1 ∷ Some 2 ∷ None ∷ None ∷ None ∷ []) (None ∷ Some 4 ∷ Some 1 ∷ None ∷ None ∷ None ∷ []) 1
    ∷ by_hand (0 ∷ 3 ∷ 1 ∷ FAR ∷ FAR ∷ FAR ∷ []) (None ∷ Some 2 ∷ Some 0 ∷ None ∷ None ∷ None ∷ []) (None ∷ Some 2 ∷ Some 2 ∷ None ∷ None ∷ None ∷ []) (None ∷ Some 3 ∷ None ∷ None ∷ None ∷ None ∷ []) 2
    ∷ by_hand (0 ∷ 3 ∷ 1 ∷ 8 ∷ FAR ∷ FAR ∷ []) (None ∷ Some 2 ∷ Some 0 ∷ Some 1 ∷ None ∷ None ∷ []) (None ∷ Some 2 ∷ Some 2 ∷ Some 2 ∷ None ∷ None ∷ []) (None ∷ None ∷ None ∷ Some 8 ∷ None ∷ None ∷ []) 3
    ∷ by_hand final at_last (None ∷ Some 2 ∷ Some 2 ∷ Some 2 ∷ Some 2 ∷ None ∷ []) (None ∷ None ∷ None ∷ None ∷ Some 9 ∷ None ∷ []) 4
    ∷ by_hand final at_last (None ∷ Some 2 ∷ Some 2 ∷ Some 2 ∷ Some 2 ∷ None ∷ []) nobody 5
    ∷ [])
    ∷ []

abbrev pub changed_at : ℕ → ℕ → Option ℕ → Row Sum
changed_at B number p = record { costs = written row_of_zero.costs B (sum_cost number); predecessors = written row_of_zero.predecessors B p }

abbrev pub failing : Row Sum → List (ℕ × ℕ)
failing = failures sum_kind six 0

abbrev pub computed_failures : List (List (ℕ × ℕ))
computed_failures =
    failing row_of_zero
    ∷ failing (changed_at 0 5 None)
    ∷ failing (changed_at 0 0 (Some 2))
    ∷ failing (changed_at 0 0 (Some 3))
    ∷ failing (changed_at 0 20 (Some 3))
    ∷ failing (changed_at 3 8 None)
    ∷ failing (changed_at 5 FAR (Some 3))
    ∷ failing (changed_at 3 8 (Some 6))
    ∷ failing (changed_at 3 8 (Some 5))
    ∷ failing (changed_at 3 7 (Some 1))
    ∷ failing (changed_at 3 FAR (Some 1))
    ∷ failing (changed_at 3 9 (Some 2))
    ∷ []

abbrev pub hand_failures : List (List (ℕ × ℕ))
hand_failures =
    []
    ∷ ((0, 1) ∷ (2, 4) ∷ [])
    ∷ ((0, 1) ∷ (0, 3) ∷ [])
    ∷ ((0, 1) ∷ (0, 4) ∷ [])
    ∷ ((0, 1) ∷ (0, 4) ∷ (0, 5) ∷ (2, 4) ∷ [])
    ∷ ((3, 2) ∷ [])
    ∷ ((5, 2) ∷ (5, 3) ∷ [])
    ∷ ((3, 3) ∷ [])
    ∷ ((3, 3) ∷ [])
    ∷ ((3, 4) ∷ (4, 4) ∷ (4, 5) ∷ [])
    ∷ ((3, 2) ∷ (3, 4) ∷ (3, 5) ∷ (4, 4) ∷ [])
    ∷ ((3, 5) ∷ (4, 4) ∷ [])
    ∷ []

abbrev pub computed_tight : List (List Bool)
computed_tight =
    map (tight sum_kind row_of_two) (six.links ++ link 5 5 1 ∷ [])
    ∷ map (tight sum_kind (record { costs = written row_of_two.costs 3 (sum_cost 9); predecessors = row_of_two.predecessors })) six.links
    ∷ []

abbrev pub hand_tight : List (List Bool)
hand_tight =
    (false ∷ false ∷ true ∷ true ∷ false ∷ false ∷ true ∷ true ∷ false ∷ [])
    ∷ (false ∷ false ∷ true ∷ false ∷ false ∷ false ∷ false ∷ false ∷ [])
    ∷ []
