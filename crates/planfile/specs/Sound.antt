-- Sound plans: what a plan file may hold.
--
--   Differs y x               the records y and x have different pairs of stations
--   LinkSound f n earlier x   on a plan of n stations with the records earlier, x may follow: its cost is in the link
--                             range, it runs between two different stations of the plan, and its pair is new
--   Laid f n earlier xs       the records xs may follow the records earlier, one after the other
--   Sound f n xs              a plan of n stations, 1 to 256, and of at most 4,096 records that may follow each other
use Rattle.std.specs.Prelude.{◌≡◌, ℕ, ◌<◌, ◌≤◌, List, [], ◌∷◌, ◌++◌, length, ◌≢◌}
use Rattle.std.specs.List.{AllByRecursion}
use Rattle.filekind.specs.Format.{Format}
use Rattle.planfile.specs.declared.fields.Fields.{Fields}

abbrev pub Differs : Fields → Fields → Type 0
Differs y x = y.from ≡ x.from → y.to ≢ x.to

pub record LinkSound (f : Format) (n : ℕ) (earlier : List Fields) (x : Fields) : Type 0 where
  pub low : f.low ≤ x.number
  pub high : x.number ≤ f.high
  pub from : x.from < n
  pub to : x.to < n
  pub apart : x.from ≡ x.to → ⊥
  pub new : AllByRecursion (λ y. Differs y x) earlier

abbrev pub Laid : Format → ℕ → List Fields → List Fields → Type 0
Laid f n earlier [] = Unit {0}
Laid f n earlier (x ∷ xs) = LinkSound f n earlier x × Laid f n (earlier ++ x ∷ []) xs

pub record Sound (f : Format) (n : ℕ) (xs : List Fields) : Type 0 where
  pub some : 1 ≤ n
  pub few : n ≤ 256
  pub short : length xs ≤ 4096
  pub laid : Laid f n [] xs
