-- Faults of records, with their numbers: 21 and the layer field for a cost, 3, 4 and 6 and the layer record for stations.
--
--   repeats earlier x            the pair of x stands in an earlier record
--   fault f n k again x          the first fault of record k on a plan of n stations, its pair being there already or not
--   first_fault f n earlier xs   the first fault of the records xs, which follow the records earlier
use Rattle.std.specs.Prelude.{ℕ, Bool, false, ◌&&◌, ◌||◌, List, [], ◌∷◌, ◌++◌, length, None, Option, ◌==◌, nat_le}
use Rattle.std.specs.Option.{option_or}
use Rattle.filekind.specs.Format.{Format}
use Rattle.filekind.specs.Outside.{outside}
use Rattle.refusal.specs.First.{refused_if}
use Rattle.refusal.specs.declared.Facts.{Facts}
use Rattle.refusal.specs.declared.Facts.TheVariants.{Below}
use Rattle.refusal.specs.declared.Layer.TheVariants as layer
use Rattle.planfile.specs.declared.fields.Fields.{Fields}

abbrev pub repeats : List Fields → Fields → Bool
repeats [] x = false
repeats (y ∷ ys) x = (y.from == x.from && y.to == x.to) || repeats ys x

abbrev pub fault : Format → ℕ → ℕ → Bool → Fields → Option Facts
fault f n k again x =
    refused_if (outside f.low f.high x.number) (Below k 21 layer.Field)
    (refused_if (nat_le n x.from || nat_le n x.to) (Below k 3 layer.Record)
    (refused_if (x.from == x.to) (Below k 4 layer.Record)
    (refused_if again (Below k 6 layer.Record) None)))

abbrev pub first_fault : Format → ℕ → List Fields → List Fields → Option Facts
first_fault f n earlier [] = None
first_fault f n earlier (x ∷ xs) = option_or (fault f n (length earlier) (repeats earlier x) x) (first_fault f n (earlier ++ x ∷ []) xs)
