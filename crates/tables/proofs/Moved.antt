-- Links at the start of a list, of which one is put after them or taken out.
use Rattle.std.specs.Prelude.{◌≡◌, ℕ, suc, ◌+◌, ◌-◌, ◌<◌, ◌≤◌, List, ◌++◌, length, take, drop, slice_set}
use Rattle.std.specs.List.{remove, copy_within}
use Rattle.std.proofs.Common.{◌∙◌, arith, sym, ap}
use Rattle.std.proofs.lemmas.List.{take-append-drop, length-take-le, length-set, length-drop, drop-set-lt, take-take, drop-take}
use Rattle.std.proofs.lemmas.List.Edits.{take-paste, length-paste}
use Rattle.planfile.specs.Fronted.{fronted}

module _ {X : Type 0} where
  pub fronted_set : (xs : List X) (n : ℕ) (x : X) → n < length xs → slice_set xs n x ≡ fronted (take (n + 1) (slice_set xs n x)) xs
  fronted_set xs n x within =
      let ys = slice_set xs n x in
      let fits : n + 1 ≤ length ys = omega (arith, within, length-set xs n x) in
      sym (take-append-drop (n + 1) ys) ∙ ap (λ rest. take (n + 1) ys ++ rest) (drop-set-lt (n + 1) xs n x (omega arith)) ∙ ap (λ k. take (n + 1) ys ++ drop k xs) (sym (length-take-le (n + 1) ys fits))

  module _ (xs : List X) (k n : ℕ) (within : k < n) (fits : n ≤ length xs) where
    later : n - 1 ≡ k + (n - (k + 1))
    later = omega arith

    room : n - (k + 1) ≤ length (drop (k + 1) xs)
    room = omega (arith, length-drop (k + 1) xs)

    rest_moved : drop (suc k) (take n xs) ≡ take (n - (k + 1)) (drop (k + 1) xs)
    rest_moved =
        let split : n ≡ suc k + (n - (k + 1)) = omega arith in
        let next : suc k ≡ k + 1 = omega arith in
        ap (λ j. drop (suc k) (take j xs)) split ∙ drop-take (suc k) (n - (k + 1)) xs ∙ ap (λ j. take (n - (k + 1)) (drop j xs)) next

    pub front_closed : take (n - 1) (copy_within xs (k + 1) n k) ≡ remove (take n xs) k
    front_closed =
        ap (λ j. take j (copy_within xs (k + 1) n k)) later
        ∙ take-paste xs k (drop (k + 1) xs) (n - (k + 1)) (omega arith) room
        ∙ sym (ap (λ front. front ++ drop (suc k) (take n xs)) (take-take k n xs (omega arith)) ∙ ap (λ rest. take k xs ++ rest) rest_moved)

    pub length_closed : length (copy_within xs (k + 1) n k) ≡ length xs
    length_closed = length-paste xs k (drop (k + 1) xs) (n - (k + 1)) (omega arith) room

  pub ruleset closed = (front_closed, length_closed)
