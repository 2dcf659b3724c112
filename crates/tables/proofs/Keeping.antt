-- What is kept while one row is worked: every other row, the links and the marks.
use Rattle.std.specs.Prelude.{◌≡◌, ℕ, suc, ◌+◌, ◌*◌, ◌<◌, ◌≤◌, List, false, Option, Some, None, IfSome, if◌then◌else◌, take, slice_index_or, ◌⊎◌, ◌≢◌}
use Rattle.std.proofs.Common.{◌∙◌, refl, arith, sym, ap, ⊎_elim, inl, inr, mul-le-mul_right, suc-mul, subst}
use Rattle.std.proofs.Math.Path.{fun_ext}
use Rattle.std.proofs.lemmas.Bool.{cases_eq, cases_lt}
use Rattle.std.proofs.lemmas.List.{get_or-take, length-take}
use Rattle.std.proofs.lemmas.Bool.Decides.{nat_tests}
use Rattle.cost.specs.Kind.{Kind}
use Rattle.routes.specs.Network.{Between}
use Rattle.routes.specs.declared.method.Method.{Method}
use Rattle.ledger.specs.Ledger.{network}
use Rattle.ledger.specs.View.{stored, task_of, worked_rows}
use Rattle.tables.specs.declared.state.Tables.{Tables}
use Rattle.tables.specs.View.{cell, ledger_of, row_in, row_of, view_of}
use Rattle.tables.specs.Following.{guide_row}
use Rattle.tables.specs.Working.{SameBut, Kept}
use Rattle.tables.proofs.Cells.{same_but_itself, same_but_twice}
use Rattle.tables.proofs.Memory.{memory_itself, memory_twice}

other_row : (n a b v : ℕ) → (b ≢ a) → v < n → (b * n + v < a * n) ⊎ (a * n + n ≤ b * n + v)
other_row n a b v apart fits =
    ⊎_elim
    (λ (below : b < a). let rows : suc b * n ≤ a * n = mul-le-mul_right n below in inl (omega (arith, suc-mul b n, rows, fits)))
    (λ (above : a ≤ b). let more : suc a ≤ b = omega (arith, above, apart) in let rows : suc a * n ≤ b * n = mul-le-mul_right n more in inr (omega (arith, suc-mul a n, rows)))
    (cases_lt b a)

module _ {X : Type 0} (n a b : ℕ) (xs ys : List X) (d : X) (same : SameBut n a xs ys) (apart : b ≢ a) where
  kept_cell : (v : ℕ) → cell n ys d b v ≡ cell n xs d b v
  kept_cell v =
      ⊎_elim
      (λ (within : v < n). let e = same.others (b * n + v) d (other_row n a b v apart within) in grind (arith, nat_tests, e))
      (λ (past : n ≤ v). grind (arith, nat_tests))
      (cases_lt v n)

  kept_cells : cell n ys d b ≡ cell n xs d b
  kept_cells = fun_ext kept_cell

pub other_cells : {K : Type 0} (m : Kind K) {n n' a b : ℕ} {xs xs' : List K} {ys ys' : List ℕ} → n' ≡ n → SameBut n a xs xs' → SameBut n a ys ys' → (b ≢ a) → row_in m n' xs' ys' b ≡ row_in m n xs ys b
other_cells m {n} {n'} {a} {b} {xs} {xs'} {ys} {ys'} same same_xs same_ys apart =
    ap (λ k. row_in m k xs' ys' b) same
    ∙ ap (λ f. record { costs = f; predecessors = λ v. stored (cell n ys' 65535 b v) }) (kept_cells n a b xs xs' m.far same_xs apart)
    ∙ ap (λ f. record { costs = cell n xs m.far b; predecessors = λ v. stored (f v) }) (kept_cells n a b ys ys' 65535 same_ys apart)

pub kept_row : {K : Type 0} (m : Kind K) {a b : ℕ} {t t' : Tables K} → Kept a t t' → (b ≢ a) → row_of m t' b ≡ row_of m t b
kept_row m kept apart = other_cells m kept.stations kept.costs kept.predecessors apart

pub kept_itself : {K : Type 0} (a : ℕ) (t : Tables K) → Kept a t t
kept_itself a t = record {
  memory = memory_itself t;
  stations = refl;
  count = refl;
  worked = refl;
  list = refl;
  departures = refl;
  costs = same_but_itself t.stations a t.costs.now;
  predecessors = same_but_itself t.stations a t.predecessors.now;
}

pub kept_twice : {K : Type 0} {a : ℕ} {t t' t'' : Tables K} → Kept a t t' → Kept a t' t'' → Kept a t t''
kept_twice {a = a} {t} {t'} {t''} one two = record {
  memory = memory_twice one.memory two.memory;
  stations = two.stations ∙ one.stations;
  count = two.count ∙ one.count;
  worked = two.worked ∙ one.worked;
  list = two.list ∙ one.list;
  departures = two.departures ∙ one.departures;
  costs = same_but_twice t.stations a t.costs.now t'.costs.now t''.costs.now one.costs (subst (λ n. SameBut n a t'.costs.now t''.costs.now) one.stations two.costs);
  predecessors = same_but_twice t.stations a t.predecessors.now t'.predecessors.now t''.predecessors.now one.predecessors (subst (λ n. SameBut n a t'.predecessors.now t''.predecessors.now) one.stations two.predecessors);
}

pub kept_links : {K : Type 0} {a : ℕ} {t t' : Tables K} → Kept a t t' → (ledger_of t').links ≡ (ledger_of t).links
kept_links {t = t} {t'} kept = ap (λ k. take k t'.list.now) kept.count ∙ ap (take t.count) kept.list

-- where the guiding row is not the one that is worked
pub kept_guide : {K : Type 0} (m : Kind K) {a : ℕ} {t t' : Tables K} → Kept a t t' → (guide : Option ℕ) → IfSome guide (λ w. (w < t.stations) × (w ≢ a)) → guide_row m t' guide ≡ guide_row m t guide
kept_guide m kept None apart = refl
kept_guide m kept (Some w) apart = ap Some (kept_row m kept apart.1)

-- an unworked row may be worked on, and what it is worked from stays
pub kept_task : {K : Type 0} (m : Kind K) {a : ℕ} {t t' : Tables K} → Kept a t t' → (ledger_of t).marked a ≡ false → (method : Method) → task_of (view_of m t') a method ≡ task_of (view_of m t) a method
kept_task {K} m {a} {t} {t'} kept unworked method =
    let marks : (b : ℕ) → (ledger_of t').marked b ≡ (ledger_of t).marked b = λ b. ap (λ w. slice_index_or w b false) kept.worked in
    let row : (b : ℕ) → worked_rows (view_of m t') b ≡ worked_rows (view_of m t) b =
    λ b. ⊎_elim
    (λ (here : b ≡ a). let off : (ledger_of t).marked b ≡ false = ap (ledger_of t).marked here ∙ unworked in rw (marks b, off) refl)
    (λ (apart : b ≢ a). rw (marks b) (ap (λ r. if (ledger_of t).marked b then Some r else None) (kept_row m kept apart)))
    (cases_eq b a) in
    let rows : worked_rows (view_of m t') ≡ worked_rows (view_of m t) = fun_ext row in
    let links = kept_links kept in
    ap (λ n. record { network = record { stations = n; links = (ledger_of t').links }; rows = worked_rows (view_of m t'); source = a; method = method }) kept.stations
    ∙ ap (λ ls. record { network = record { stations = t.stations; links = ls }; rows = worked_rows (view_of m t'); source = a; method = method }) links
    ∙ ap (λ rs. record { network = network (ledger_of t); rows = rs; source = a; method = method }) rows

-- the links run between stations
pub links_between : {K : Type 0} (t : Tables K) → Between (network (ledger_of t))
links_between t l has =
    let within : has.0 < t.count = omega (arith, has.1, length-take t.count t.list.now) in
    let there = t.between has.0 l within in
    let here : slice_index_or t.list.now has.0 l ≡ l = sym (get_or-take t.count t.list.now has.0 l within) ∙ has.2 in
    rw here at there
