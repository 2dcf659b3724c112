-- Six stations, small enough to be worked by hand. No link leads to the last.
--
--   six                        the stations and their links
--   numbered, listed           costs by their numbers, and predecessors, from station 0 on
--   row_of_zero, row_of_two    the right rows of sources 0 and 2
--   two_worked                 row 2 is worked already, and no other
--   both_worked                rows 0 and 2 are
--   five_wrong                 as is row 5, which holds what is right of row 0
--   odd                        two stations with a free link, another of the same pair, and one to its own station
--   lone                       one station with a link to itself, which costs FAR
--   to_work method rows        row 0 is to be worked by the method
--   after task xs              the state when the stations xs were taken one after the other
use Rattle.std.specs.Prelude.{ℕ, zero, suc, List, [], ◌∷◌, Option, Some, None}
use Rattle.std.specs.List.{fold}
use Rattle.cost.specs.Kind.{FAR}
use Rattle.cost.specs.Sum.{sum_kind, sum_cost}
use Rattle.cost.specs.declared.link.Link.{Link}
use Rattle.cost.specs.declared.sum.Sum.{Sum}
use Rattle.routes.specs.Network.{Network}
use Rattle.routes.specs.Row.{Row}
use Rattle.routes.specs.Task.{Task}
use Rattle.routes.specs.State.{State, begun, written}
use Rattle.routes.specs.Runs.{followed}
use Rattle.routes.specs.declared.method.Method.{Method}

abbrev pub link : ℕ → ℕ → ℕ → Link Sum
link from to number = record { from = from; to = to; cost = sum_cost number }

abbrev pub six : Network Sum
six = record {
  stations = 6;
  links = link 0 1 4 ∷ link 0 2 1 ∷ link 2 1 2 ∷ link 1 3 5 ∷ link 2 3 8 ∷ link 1 4 9 ∷ link 3 4 1 ∷ link 3 0 1 ∷ [];
}

abbrev pub odd : Network Sum
odd = record { stations = 2; links = link 0 1 0 ∷ link 0 1 4 ∷ link 1 1 2 ∷ [] }

abbrev pub lone : Network Sum
lone = record { stations = 1; links = link 0 0 FAR ∷ [] }

abbrev pub numbered : List ℕ → ℕ → Sum
numbered [] v = sum_cost FAR
numbered (x ∷ xs) zero = sum_cost x
numbered (x ∷ xs) (suc v) = numbered xs v

abbrev pub listed : List (Option ℕ) → ℕ → Option ℕ
listed [] v = None
listed (p ∷ ps) zero = p
listed (p ∷ ps) (suc v) = listed ps v

abbrev pub row_of_zero : Row Sum
row_of_zero = record {
  costs = numbered (0 ∷ 3 ∷ 1 ∷ 8 ∷ 9 ∷ FAR ∷ []);
  predecessors = listed (None ∷ Some 2 ∷ Some 0 ∷ Some 1 ∷ Some 3 ∷ None ∷ []);
}

abbrev pub row_of_two : Row Sum
row_of_two = record {
  costs = numbered (8 ∷ 2 ∷ 0 ∷ 7 ∷ 8 ∷ FAR ∷ []);
  predecessors = listed (Some 3 ∷ Some 2 ∷ None ∷ Some 1 ∷ Some 3 ∷ None ∷ []);
}

abbrev pub two_worked : ℕ → Option (Row Sum)
two_worked = written (λ v. None) 2 (Some row_of_two)

abbrev pub both_worked : ℕ → Option (Row Sum)
both_worked = written two_worked 0 (Some row_of_zero)

abbrev pub five_wrong : ℕ → Option (Row Sum)
five_wrong = written both_worked 5 (Some row_of_zero)

abbrev pub to_work : Method → (ℕ → Option (Row Sum)) → Task Sum
to_work method rows = record { network = six; rows = rows; source = 0; method = method }

abbrev pub after : Task Sum → List ℕ → State Sum
after task xs = fold (followed sum_kind task) (begun sum_kind task) xs
