-- Going back by predecessors, station after station: counting them, and writing them from the end of the way to its start.
use Rattle.std.specs.Prelude.{◌≡◌, ℕ, zero, suc, ◌+◌, ◌-◌, ◌<◌, ◌≤◌, List, [], ◌∷◌, ◌++◌, Option, Some, None, length, drop, slice_set}
use Rattle.std.specs.Option.{option_map_or, unwrap_or}
use Rattle.std.proofs.Common.{◌∙◌, refl, arith, sym, ap, append-nil}
use Rattle.std.proofs.lemmas.List.{append_assoc, drop-set, length-append, length-set, nil_from_length}
use Rattle.routes.specs.Row.{Row}
use Rattle.ledger.specs.Traced.{traced}

module _ {K : Type 0} (row : Row K) where
  -- the way back without the station that it begins with
  abbrev before : ℕ → ℕ → List ℕ
  before zero at = []
  before (suc steps) at = option_map_or (traced row steps) (row.predecessors at) []

  and_last : (steps at : ℕ) → traced row steps at ≡ before steps at ++ at ∷ []
  and_last zero at = refl
  and_last (suc steps) at = refl

  one_longer : (steps at : ℕ) → length (traced row steps at) ≡ length (before steps at) + 1
  one_longer steps at = ap length (and_last steps at) ∙ length-append (before steps at) (at ∷ [])

  module _ (n B : ℕ) where
    -- after so many steps the way has gone back to the station `at`, which is counted
    pub record Counted (steps count at : ℕ) : Type 0 where
      pub on : count ≡ steps + 1
      pub rest : length (traced row n B) ≡ steps + length (traced row (n - steps) at)

    pub count_begins : Counted 0 1 B
    count_begins = let whole : n - 0 ≡ n = omega arith in record { on = refl; rest = omega (arith, ap (λ k. length (traced row k B)) whole) }

    pub count_goes_on : {steps count at p : ℕ} → steps < n → row.predecessors at ≡ Some p → Counted steps count at → Counted (steps + 1) (count + 1) p
    count_goes_on {steps} {count} {at} {p} more is so_far =
        let first : n - steps ≡ suc (n - (steps + 1)) = omega arith in
        let here : length (traced row (n - steps) at) ≡ length (traced row (n - (steps + 1)) p) + 1 =
        ap (λ k. length (traced row k at)) first ∙ one_longer (suc (n - (steps + 1))) at ∙ ap (λ o. length (option_map_or (traced row (n - (steps + 1))) o []) + 1) is in
        record { on = omega (arith, so_far.on); rest = omega (arith, so_far.rest, here) }

    pub count_stops : {steps count at : ℕ} → steps < n → row.predecessors at ≡ None → Counted steps count at → count ≡ length (traced row n B)
    count_stops {steps} {count} {at} more is so_far =
        let first : n - steps ≡ suc (n - (steps + 1)) = omega arith in
        let here : length (traced row (n - steps) at) ≡ 1 =
        ap (λ k. length (traced row k at)) first ∙ one_longer (suc (n - (steps + 1))) at ∙ ap (λ o. length (option_map_or (traced row (n - (steps + 1))) o []) + 1) is in
        omega (arith, so_far.on, so_far.rest, here)

    pub count_ends : {steps count at : ℕ} → n ≤ steps → Counted steps count at → count ≡ length (traced row n B)
    count_ends {steps} {count} {at} past so_far =
        let none : n - steps ≡ 0 = omega arith in
        let here : length (traced row (n - steps) at) ≡ 1 = ap (λ k. length (traced row k at)) none in
        omega (arith, so_far.on, so_far.rest, here)

    -- the places from p on hold the end of the way, and the rest of it leads to the station `at`
    pub record Written (count p at : ℕ) (old list : List ℕ) : Type 0 where
      pub front : List ℕ
      pub tail : List ℕ
      pub parts : traced row n B ≡ front ++ tail
      pub left : length front ≡ p
      pub ahead : 1 ≤ p → (steps : ℕ) × (front ≡ traced row steps at)
      pub done : drop p list ≡ tail ++ drop count old
      pub long : length list ≡ length old

    pub write_begins : {count : ℕ} {old : List ℕ} → count ≡ length (traced row n B) → Written count count B old old
    write_begins {count} {old} all = record {
      front = traced row n B;
      tail = [];
      parts = sym (append-nil (traced row n B));
      left = sym all;
      ahead = λ some. (n, refl);
      done = refl;
      long = refl;
    }

    goes_back : (steps k at : ℕ) → length (before steps at) ≡ k → 1 ≤ k → (more : ℕ) × (before steps at ≡ traced row more (unwrap_or (row.predecessors at) at))
    goes_back zero k at long some = absurd (omega (arith, long, some))
    goes_back (suc steps) k at long some = back (row.predecessors at) refl
      where
        back : (o : Option ℕ) → row.predecessors at ≡ o → (more : ℕ) × (option_map_or (traced row steps) (row.predecessors at) [] ≡ traced row more (unwrap_or (row.predecessors at) at))
        back None is = let short : length (before (suc steps) at) ≡ 0 = ap (λ o. length (option_map_or (traced row steps) o [])) is in absurd (omega (arith, long, short, some))
        back (Some p) is = (steps, rw is refl)

    pub write_goes_on : {count p k at : ℕ} {old list list' : List ℕ} → p ≡ k + 1 → k < length list → list' ≡ slice_set list k at → Written count p at old list → Written count k (unwrap_or (row.predecessors at) at) old list'
    write_goes_on {count} {p} {k} {at} {old} {list} {list'} one within set so_far =
        let known = so_far.ahead (omega arith) in
        let here = known.1 ∙ and_last known.0 at in
        let less : length (before known.0 at) ≡ k = omega (arith, ap length here, length-append (before known.0 at) (at ∷ []), so_far.left, one) in record {
          front = before known.0 at;
          tail = at ∷ so_far.tail;
          parts = so_far.parts ∙ ap (λ f. f ++ so_far.tail) here ∙ append_assoc (before known.0 at) (at ∷ []) so_far.tail;
          left = less;
          ahead = goes_back known.0 k at less;
          done = ap (drop k) set ∙ drop-set list k at within ∙ ap (λ q. at ∷ drop q list) (sym one) ∙ ap (λ xs. at ∷ xs) so_far.done;
          long = ap length set ∙ length-set list k at ∙ so_far.long;
        }

    pub write_ends : {count at : ℕ} {old list : List ℕ} → Written count 0 at old list → list ≡ traced row n B ++ drop count old
    write_ends {count} {at} {old} {list} so_far = so_far.done ∙ ap (λ xs. xs ++ drop count old) (sym (so_far.parts ∙ ap (λ f. f ++ so_far.tail) (nil_from_length so_far.front so_far.left)))
