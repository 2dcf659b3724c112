-- Each row by hand in which no station fails is right, and what follows from that.
use Rattle.std.proofs.Common.{◌≡◌, ℕ, ◌<◌, Bool, true, false, not, ◌&&◌, ◌||◌, nat_lt, List, [], ◌∷◌, refl, ap, arith}
use Rattle.std.specs.List.{Contains, list_all}
use Rattle.std.proofs.lemmas.Bool.{and_parts}
use Rattle.std.proofs.lemmas.Bool.Decides.{nat_tests}
use Rattle.cost.specs.Kind.{Same}
use Rattle.cost.specs.Sum.{sum_kind, sum_cost}
use Rattle.cost.specs.declared.sum.Sum.{Sum}
use Rattle.routes.specs.Least.{Least}
use Rattle.routes.specs.Network.{Network, Between, NoneFree}
use Rattle.routes.specs.Row.{Row, Right}
use Rattle.routes.proofs.ByHand.{each_passes, sum_laws, sum_strict, runs_between, between_of, is_paid, none_free_of, passes_all, right_by_hand, same_cost, same_predecessor}
use Rattle.routes.proofs.OneLeast.{one_least}
use Rattle.campuses.specs.Campuses.{campus_h, campus_j, row_h, row_j, supplied}
use Rattle.campuses.specs.Sheets.{Alike, Sheet, sheets}

abbrev fails_nowhere : List (ℕ × ℕ) → Bool
fails_nowhere [] = true
fails_nowhere (x ∷ xs) = false

-- the whole table in one test
abbrev links_pass : Network Sum → Bool
links_pass net = list_all (runs_between net) net.links && list_all (is_paid net sum_kind) net.links

abbrev row_passes : Sheet → Bool
row_passes s = nat_lt s.source s.network.stations && (not (fails_nowhere s.failing) || passes_all sum_kind s.network s.source s.row)

pub right_sheet : (s : Sheet) → Contains sheets s → s.failing ≡ [] → Right sum_kind s.network s.source s.row
right_sheet s has none =
    let parts = and_parts (links_pass s.network) (row_passes s) (each_passes (λ s. links_pass s.network && row_passes s) sheets refl s has) in
    let links = and_parts (list_all (runs_between s.network) s.network.links) (list_all (is_paid s.network sum_kind) s.network.links) parts.0 in
    let more = and_parts (nat_lt s.source s.network.stations) (not (fails_nowhere s.failing) || passes_all sum_kind s.network s.source s.row) parts.1 in
    let there : s.source < s.network.stations = let test = more.0 in grind (arith, nat_tests) in
    let nowhere : fails_nowhere s.failing ≡ true = ap fails_nowhere none in
    let all : passes_all sum_kind s.network s.source s.row ≡ true = rw nowhere at more.1 in
    right_by_hand sum_laws sum_strict (between_of s.network links.0) (none_free_of s.network sum_kind links.1) there all

-- links of campus H, and both rows of station 0
h_between : Between campus_h
h_between = between_of campus_h refl

h_none_free : NoneFree sum_kind campus_h
h_none_free = none_free_of campus_h sum_kind refl

right_h : Right sum_kind campus_h 0 row_h
right_h = right_by_hand sum_laws sum_strict h_between h_none_free (omega arith) refl

right_j : Right sum_kind campus_j 0 row_j
right_j = right_by_hand sum_laws sum_strict (between_of campus_j refl) (none_free_of campus_j sum_kind refl) (omega arith) refl

pub one_right_row : (other : Row Sum) → Right sum_kind campus_h 0 other → Alike 5 row_h other
one_right_row other right = record {
  costs = λ B within. same_cost sum_laws sum_strict h_between h_none_free (omega arith) right_h right B within;
  predecessors = λ B within. same_predecessor sum_laws sum_strict h_between h_none_free (omega arith) right_h right refl B within;
}

pub not_right : Right sum_kind campus_h 0 supplied → ⊥
not_right right = let same : 8 ≡ 9 = (one_right_row supplied right).costs 3 (omega arith) in cc same

pub least_on_j : (c : Sum) → Least sum_kind campus_j 0 5 c → Same sum_kind c (sum_cost 4)
least_on_j c least = one_least sum_laws least (right_j.least 5 (omega arith))

-- what the contract wants
pub ruleset of_sheets = (right_sheet, one_right_row, not_right, least_on_j)
