-- Stations that are taken one after the other, as a test by numbers.
--
--   no_later x y               x is at most y, where both are ranks; whoever does not wait has none
--   of_lowest n s t            of n stations, t waits in state s, and nobody at a lower rank
--   all_lowest n follow s ts   so it is with each of the stations ts when it is taken, where follow gives the state that this leaves; and
--                              then nobody waits
use Rattle.std.specs.Prelude.{ℕ, Bool, true, ◌&&◌, List, [], ◌∷◌, Option, Some, is_some, is_none, nat_le}
use Rattle.std.specs.List.{list_all, range_with_len}
use Rattle.routes.specs.State.{State}

abbrev pub no_later : Option ℕ → Option ℕ → Bool
no_later (Some x) (Some y) = nat_le x y
no_later x y = true

module _ {K : Type 0} (n : ℕ) where
  abbrev pub of_lowest : State K → ℕ → Bool
  of_lowest s t = is_some (s.queue.ranks t) && list_all (λ v. no_later (s.queue.ranks t) (s.queue.ranks v)) (range_with_len 0 n)

  abbrev pub all_lowest : (State K → ℕ → State K) → State K → List ℕ → Bool
  all_lowest follow s [] = list_all (λ v. is_none (s.queue.ranks v)) (range_with_len 0 n)
  all_lowest follow s (t ∷ ts) = of_lowest s t && all_lowest follow (follow s t) ts
