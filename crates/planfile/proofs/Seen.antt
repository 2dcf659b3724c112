-- The table of pairs tells of each pair whether it stood in an earlier record.
use Rattle.std.proofs.Common.{◌≡◌, ℕ, zero, suc, ◌+◌, ◌*◌, ◌<◌, ◌≤◌, Bool, true, false, ◌&&◌, ◌||◌, eqb, List, [], ◌∷◌, ◌++◌, length, get_or, set, replicate, None, refl, arith}
use lib.ListN.{length-replicate}
use Rattle.std.proofs.lemmas.Bool.Decides.{nat_tests}
use Rattle.std.proofs.lemmas.Grind.{common_steps}
use Rattle.std.proofs.lemmas.List.Recursion.{or_push}
use Rattle.filekind.specs.Format.{Format}
use Rattle.planfile.specs.Faults.{fault, repeats}
use Rattle.planfile.specs.declared.fields.Fields.{Fields}

abbrev pub place : Fields → ℕ
place x = x.from * 256 + x.to

-- the pair has a place of its own in the table
pub record Low (x : Fields) : Type 0 where
  pub from : x.from < 256
  pub to : x.to < 256

pub record Holds (seen : List Bool) (earlier : List Fields) : Type 0 where
  pub long : length seen ≡ 65536
  pub tells_of : (x : Fields) → Low x → get_or seen (place x) false ≡ repeats earlier x

-- a list of unset flags has no flag set, at any place
replicate-unset : (n s : ℕ) → get_or (replicate n false) s false ≡ false
replicate-unset zero s = refl
replicate-unset (suc n) zero = refl
replicate-unset (suc n) (suc s) = replicate-unset n s

-- a table of flags that are all down
pub none_seen : (seen : List Bool) → seen ≡ replicate 65536 false → Holds seen []
none_seen seen down = record {
  long = rw down (length-replicate 65536 false);
  tells_of = λ x low. rw down (replicate-unset 65536 (place x));
}

-- one more record repeats its own pair
repeats-push : (earlier : List Fields) (y x : Fields) → repeats (earlier ++ y ∷ []) x ≡ (repeats earlier x || (eqb y.from x.from && eqb y.to x.to))
repeats-push earlier y x = or_push (λ ys. repeats ys x) (λ z. eqb z.from x.from && eqb z.to x.to) refl (λ _ _. refl) earlier y

-- the flag of one more record's pair goes up
pub holds_more : (seen : List Bool) (earlier : List Fields) (y : Fields) → Low y → Holds seen earlier → Holds (set seen (place y) true) (earlier ++ y ∷ [])
holds_more seen earlier y low holds = grind (arith, nat_tests, common_steps, repeats-push earlier y)

-- the table's word serves as well as the earlier records'
pub fault_seen : (f : Format) (n k : ℕ) (seen : List Bool) (earlier : List Fields) (x : Fields) → n ≤ 256 → Holds seen earlier → fault f n k (get_or seen (place x) false) x ≡ fault f n k (repeats earlier x) x
fault_seen f n k seen earlier x few holds = grind (arith, nat_tests, holds.tells_of x)

-- a record without a fault has stations of the plan
pub sound_low : (f : Format) (n k : ℕ) (again : Bool) (x : Fields) → n ≤ 256 → fault f n k again x ≡ None → Low x
sound_low f n k again x few e = grind (arith, nat_tests)
