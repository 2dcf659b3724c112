-- Writing a cell of a row changes the row there, and no other row.
use Rattle.std.specs.Prelude.{◌≡◌, ℕ, ◌+◌, ◌*◌, ◌<◌, ◌≤◌, List, None, length, slice_index_or, slice_set, suc}
use Rattle.std.proofs.Common.{◌∙◌, refl, arith, ap, ⊎_elim, mul-le-mul_right, suc-mul}
use Rattle.std.proofs.Math.Path.{fun_ext}
use Rattle.std.proofs.lemmas.List.{get_or-set_same, get_or-set_other, length-set}
use Rattle.std.proofs.lemmas.Bool.{cases_lt, cases_eq}
use Rattle.std.proofs.lemmas.Bool.Decides.{nat_tests}
use Rattle.routes.specs.State.{written}
use Rattle.cost.specs.Kind.{Kind}
use Rattle.ledger.specs.View.{cleared, stored}
use Rattle.tables.specs.View.{cell, row_in}
use Rattle.tables.specs.Working.{SameBut, begun_row}

-- a list as a function of the place
set_at : {X : Type 0} (xs : List X) (d x : X) (u v : ℕ) → u < length xs → slice_index_or (slice_set xs u x) v d ≡ written (λ w. slice_index_or xs w d) u x v
set_at xs d x u v fits = grind (arith, nat_tests, get_or-set_same xs u x d, get_or-set_other xs u v x d, cases_eq v u)

pub set_is_written : {X : Type 0} (xs : List X) (d x : X) (u : ℕ) → u < length xs → (λ v. slice_index_or (slice_set xs u x) v d) ≡ written (λ v. slice_index_or xs v d) u x
set_is_written xs d x u fits = fun_ext (λ v. set_at xs d x u v fits)

pub cell_fits : (n a u len : ℕ) → a < n → u < n → n * n ≤ len → a * n + u < len
cell_fits n a u len below fits long =
    let rows : suc a * n ≤ n * n = mul-le-mul_right n below in
    omega (arith, suc-mul a n, rows, fits, long)

cell_at : {X : Type 0} (n : ℕ) (xs : List X) (d x : X) (a u v : ℕ) → a < n → u < n → n * n ≤ length xs → cell n (slice_set xs (a * n + u) x) d a v ≡ written (cell n xs d a) u x v
cell_at n xs d x a u v below fits long =
    let place = set_at xs d x (a * n + u) (a * n + v) (cell_fits n a u (length xs) below fits long) in
    grind (arith, nat_tests, place, fits, cases_lt v n, cases_eq v u)

pub cell_is_written : {X : Type 0} (n : ℕ) (xs : List X) (d x : X) (a u : ℕ) → a < n → u < n → n * n ≤ length xs → cell n (slice_set xs (a * n + u) x) d a ≡ written (cell n xs d a) u x
cell_is_written n xs d x a u below fits long = fun_ext (λ v. cell_at n xs d x a u v below fits long)

written_after : {X Y : Type 0} (h : X → Y) (f : ℕ → X) (u : ℕ) (x : X) → (λ v. h (written f u x v)) ≡ written (λ v. h (f v)) u (h x)
written_after h f u x = fun_ext (λ v. grind (arith, nat_tests, cases_eq v u))

pub numbers_are_written : (n : ℕ) (ys : List ℕ) (a u p : ℕ) → a < n → u < n → n * n ≤ length ys → (λ v. stored (cell n (slice_set ys (a * n + u) p) 65535 a v)) ≡ written (λ v. stored (cell n ys 65535 a v)) u (stored p)
numbers_are_written n ys a u p below fits long = ap (λ f v. stored (f v)) (cell_is_written n ys 65535 p a u below fits long) ∙ written_after stored (cell n ys 65535 a) u p

pub set_same_but : {X : Type 0} (n a u : ℕ) (xs : List X) (x : X) → u < n → SameBut n a xs (slice_set xs (a * n + u) x)
set_same_but n a u xs x fits = record {
  long = length-set xs (a * n + u) x;
  others = λ i d out. get_or-set_other xs (a * n + u) i x d (⊎_elim (λ (below : i < a * n). λ e. omega (arith, e, below)) (λ (above : a * n + n ≤ i). λ e. omega (arith, e, above, fits)) out);
}

pub same_but_itself : {X : Type 0} (n a : ℕ) (xs : List X) → SameBut n a xs xs
same_but_itself n a xs = record { long = refl; others = λ i d out. refl }

pub same_but_twice : {X : Type 0} (n a : ℕ) (xs ys zs : List X) → SameBut n a xs ys → SameBut n a ys zs → SameBut n a xs zs
same_but_twice n a xs ys zs one two = record { long = two.long ∙ one.long; others = λ i d out. two.others i d out ∙ one.others i d out }

-- a row that is clear but for the source at zero
pub row_begins : {K : Type 0} (m : Kind K) (n a at : ℕ) (xs xs' : List K) (ys : List ℕ) → row_in m n xs ys a ≡ cleared m → a < n → n * n ≤ length xs → at ≡ a * n + a → xs' ≡ slice_set xs at m.zero → row_in m n xs' ys a ≡ begun_row m a
row_begins m n a at xs xs' ys clear below long place step =
    let written_in : cell n xs' m.far a ≡ written (cell n xs m.far a) a m.zero = rw (step, place) (cell_is_written n xs m.far m.zero a a below below long) in
    let costs : cell n xs m.far a ≡ (λ v. m.far) = ap (λ r. r.costs) clear in
    let numbers : (λ v. stored (cell n ys 65535 a v)) ≡ (λ v. None) = ap (λ r. r.predecessors) clear in
    rw (written_in, costs, numbers) refl
