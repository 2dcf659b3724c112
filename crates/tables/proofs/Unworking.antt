-- Clearing the worked rows one by one.
use Rattle.std.specs.Prelude.{◌≡◌, ℕ, suc, ◌+◌, ◌*◌, ◌<◌, ◌≤◌, ◌&&◌, ◌⊎◌, ◌≢◌, Bool, true, false, List, length, drop, slice_index_or, nat_lt, if◌then◌else◌}
use Rattle.std.proofs.Common.{◌∙◌, arith, sym, ap, subst, ⊎_elim, inl, inr, mul-le-mul_right, suc-mul}
use Rattle.std.proofs.lemmas.List.{same_lists, length-drop, get_or-drop}
use Rattle.std.proofs.lemmas.Bool.{cases_eq, cases_lt}
use Rattle.std.proofs.lemmas.Bool.Decides.{nat_tests}
use Rattle.cost.specs.Kind.{Kind}
use Rattle.ledger.specs.View.{cleared}
use Rattle.tables.specs.declared.state.Tables.{Tables}
use Rattle.tables.specs.View.{ledger_of, row_of}
use Rattle.tables.specs.Working.{Kept, SameBut}
use Rattle.tables.specs.Lent.{SameMemory}
use Rattle.tables.proofs.Keeping.{kept_row}
use Rattle.tables.proofs.Memory.{memory_twice}

-- the worked rows of t that are before `row` are cleared in s
pub record Unworking {K : Type 0} (m : Kind K) (row : ℕ) (t s : Tables K) : Type 0 where
  pub memory : SameMemory t s
  pub stations : s.stations ≡ t.stations
  pub count : s.count ≡ t.count
  pub worked : s.worked ≡ t.worked
  pub list : s.list.now ≡ t.list.now
  pub rows : (a : ℕ) → row_of m s a ≡ (if nat_lt a row && (ledger_of t).marked a then cleared m else row_of m t a)
  pub costs_past : drop (t.stations * t.stations) s.costs.now ≡ drop (t.stations * t.stations) t.costs.now
  pub predecessors_past : drop (t.stations * t.stations) s.predecessors.now ≡ drop (t.stations * t.stations) t.predecessors.now

one_on : {R : Type 0} (marked : ℕ → Bool) (row a : ℕ) (x y : R) → (a ≢ row) ⊎ (marked row ≡ false) → (if nat_lt a row && marked a then x else y) ≡ (if nat_lt a (row + 1) && marked a then x else y)
one_on marked row a x y other =
    ⊎_elim
    (λ (apart : a ≢ row). grind (arith, nat_tests, apart, cases_lt a row))
    (λ (off : marked row ≡ false). grind (arith, nat_tests, off, cases_lt a row, cases_eq a row))
    other

pub past_kept : {X : Type 0} (n a : ℕ) (xs ys : List X) → SameBut n a xs ys → a < n → drop (n * n) ys ≡ drop (n * n) xs
past_kept n a xs ys same below =
    let rows : suc a * n ≤ n * n = mul-le-mul_right n below in
    let long : length (drop (n * n) ys) ≡ length (drop (n * n) xs) = omega (arith, length-drop (n * n) xs, length-drop (n * n) ys, same.long) in
    same_lists (drop (n * n) ys) (drop (n * n) xs) long (λ k d within. get_or-drop (n * n) ys k d ∙ same.others (n * n + k) d (inr (omega (arith, suc-mul a n, rows))) ∙ sym (get_or-drop (n * n) xs k d))

module _ {K : Type 0} (m : Kind K) where
  pub one_cleared : {row : ℕ} {t s s' : Tables K} → row < s.stations → (ledger_of s).marked row ≡ true → Unworking m row t s → row_of m s' row ≡ cleared m → Kept row s s' → Unworking m (row + 1) t s'
  one_cleared {row} {t} {s} {s'} fits worked so_far clear kept =
      let marked : (ledger_of t).marked row ≡ true = sym (ap (λ w. slice_index_or w row false) so_far.worked) ∙ worked in
      record {
        memory = memory_twice so_far.memory kept.memory;
        stations = kept.stations ∙ so_far.stations;
        count = kept.count ∙ so_far.count;
        worked = kept.worked ∙ so_far.worked;
        list = kept.list ∙ so_far.list;
        rows = λ a.
            ⊎_elim
            (λ (here : a ≡ row). grind (arith, nat_tests, here, clear, marked))
            (λ (other : a ≢ row). kept_row m kept other ∙ so_far.rows a ∙ one_on (ledger_of t).marked row a (cleared m) (row_of m t a) (inl other))
            (cases_eq a row);
        costs_past = subst (λ n. drop (n * n) s'.costs.now ≡ drop (n * n) s.costs.now) so_far.stations (past_kept s.stations row s.costs.now s'.costs.now kept.costs fits) ∙ so_far.costs_past;
        predecessors_past = subst (λ n. drop (n * n) s'.predecessors.now ≡ drop (n * n) s.predecessors.now) so_far.stations (past_kept s.stations row s.predecessors.now s'.predecessors.now kept.predecessors fits) ∙ so_far.predecessors_past;
      }

  pub one_passed : {row : ℕ} {t s : Tables K} → (ledger_of s).marked row ≡ false → Unworking m row t s → Unworking m (row + 1) t s
  one_passed {row} {t} {s} unworked so_far = record {
    memory = so_far.memory;
    stations = so_far.stations;
    count = so_far.count;
    worked = so_far.worked;
    list = so_far.list;
    rows = λ a. so_far.rows a ∙ one_on (ledger_of t).marked row a (cleared m) (row_of m t a) (inr (sym (ap (λ w. slice_index_or w row false) so_far.worked) ∙ unworked));
    costs_past = so_far.costs_past;
    predecessors_past = so_far.predecessors_past;
  }
