-- Two campuses, small enough to be worked by hand.
--
--   campus_h, campus_j    their stations and links
--   by_hand xs ps         a row whose costs have the numbers xs, and whose predecessors are ps, from station 0 on
--   row_h, row_h_of_4     rows 0 and 4 of campus H
--   supplied              a supplier's row 0 for it: station 3 has cost 9, and predecessor 2
--   row_j, row_j_of_1, row_j_of_2    rows 0, 1 and 2 of campus J
use Rattle.std.specs.Prelude.{ℕ, List, [], ◌∷◌, Option, Some, None}
use Rattle.cost.specs.Kind.{FAR}
use Rattle.cost.specs.declared.sum.Sum.{Sum}
use Rattle.routes.specs.Network.{Network}
use Rattle.routes.specs.Row.{Row}
use Rattle.routes.specs.Six.{link, numbered, listed}

abbrev pub campus_h : Network Sum
campus_h = record {
  stations = 5;
  links = link 0 1 4 ∷ link 0 2 1 ∷ link 2 1 2 ∷ link 1 3 5 ∷ link 2 3 8 ∷ [];
}

abbrev pub campus_j : Network Sum
campus_j = record {
  stations = 8;
  links =
      link 0 1 1 ∷ link 0 2 1 ∷ link 1 6 1 ∷ link 6 3 1 ∷ link 2 7 1 ∷ link 7 4 1 ∷ link 3 5 1 ∷ link 4 5 1
      ∷ link 2 3 2 ∷ link 1 4 2 ∷ [];
}

abbrev pub by_hand : List ℕ → List (Option ℕ) → Row Sum
by_hand xs ps = record { costs = numbered xs; predecessors = listed ps }

abbrev pub row_h : Row Sum
row_h = by_hand (0 ∷ 3 ∷ 1 ∷ 8 ∷ FAR ∷ []) (None ∷ Some 2 ∷ Some 0 ∷ Some 1 ∷ None ∷ [])

abbrev pub row_h_of_4 : Row Sum
row_h_of_4 = by_hand (FAR ∷ FAR ∷ FAR ∷ FAR ∷ 0 ∷ []) (None ∷ None ∷ None ∷ None ∷ None ∷ [])

abbrev pub supplied : Row Sum
supplied = by_hand (0 ∷ 3 ∷ 1 ∷ 9 ∷ FAR ∷ []) (None ∷ Some 2 ∷ Some 0 ∷ Some 2 ∷ None ∷ [])

abbrev pub row_j : Row Sum
row_j =
    by_hand (0 ∷ 1 ∷ 1 ∷ 3 ∷ 3 ∷ 4 ∷ 2 ∷ 2 ∷ [])
    (None ∷ Some 0 ∷ Some 0 ∷ Some 2 ∷ Some 1 ∷ Some 3 ∷ Some 1 ∷ Some 2 ∷ [])

abbrev pub row_j_of_1 : Row Sum
row_j_of_1 =
    by_hand (FAR ∷ 0 ∷ FAR ∷ 2 ∷ 2 ∷ 3 ∷ 1 ∷ FAR ∷ [])
    (None ∷ None ∷ None ∷ Some 6 ∷ Some 1 ∷ Some 3 ∷ Some 1 ∷ None ∷ [])

abbrev pub row_j_of_2 : Row Sum
row_j_of_2 =
    by_hand (FAR ∷ FAR ∷ 0 ∷ 2 ∷ 2 ∷ 3 ∷ FAR ∷ 1 ∷ [])
    (None ∷ None ∷ None ∷ Some 2 ∷ Some 7 ∷ Some 4 ∷ None ∷ Some 2 ∷ [])
