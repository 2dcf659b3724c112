-- The search for the first fault, one record on: the table of pairs stands for the records before.
use Rattle.std.proofs.Common.{◌≡◌, ℕ, ◌+◌, ◌<◌, ◌≤◌, Bool, true, false, List, [], ◌∷◌, ◌++◌, map, length, get_or, take, drop, set, Some, None, sym, ◌∙◌, arith}
use Rattle.std.proofs.lemmas.Grind.{common_steps}
use Rattle.std.proofs.lemmas.List.{get_or-map}
use Rattle.std.specs.Option.{option_or}
use Rattle.filekind.specs.Format.{Format}
use Rattle.refusal.specs.declared.Facts.{Facts}
use Rattle.planfile.specs.Faults.{fault, first_fault}
use Rattle.planfile.specs.Records.{first_fields}
use Rattle.planfile.specs.declared.fields.Fields.{Fields}
use Rattle.planfile.proofs.Seen.{Holds, place, holds_more, fault_seen, sound_low}

-- the records rs before the one at i have no fault, and a table for so many stations tells of their pairs
pub record Searched (f : Format) (n : ℕ) (rs : List (List ℕ)) (i stations : ℕ) (seen : List Bool) : Type 0 where
  pub of_plan : stations ≡ n
  pub table : Holds seen (take i (map first_fields rs))
  pub rest : first_fault f n (take i (map first_fields rs)) (drop i (map first_fields rs)) ≡ first_fault f n [] (map first_fields rs)

-- so far the search has come, and x is the record at i
module _ {f : Format} {n i stations : ℕ} {rs : List (List ℕ)} {seen : List Bool} {x : Fields} (so_far : Searched f n rs i stations seen) (few : n ≤ 256) (within : i < length rs) (is : x ≡ first_fields (get_or rs i [])) where
  -- it stands between those before it and those after it, and i are before it
  parts : (take (i + 1) (map first_fields rs) ≡ take i (map first_fields rs) ++ x ∷ []) × (drop i (map first_fields rs) ≡ x ∷ drop (i + 1) (map first_fields rs)) × (length (take i (map first_fields rs)) ≡ i)
  parts = grind (arith, common_steps, get_or-map first_fields rs i [] x within)

  -- its fault comes before those of the records after it
  split : option_or (fault f stations i (get_or seen (place x) false) x) (first_fault f n (take (i + 1) (map first_fields rs)) (drop (i + 1) (map first_fields rs))) ≡ first_fault f n [] (map first_fields rs)
  split = rw (so_far.of_plan, fault_seen f n i seen (take i (map first_fields rs)) x few so_far.table, parts.0) (rw (parts.1, parts.2) at so_far.rest)

  -- its fault is the first of all
  pub fault_found : {facts : Facts} → Some facts ≡ fault f stations i (get_or seen (place x) false) x → Some facts ≡ first_fault f n [] (map first_fields rs)
  fault_found found = rw (← found) at split

  -- it has no fault, and its pair's flag goes up
  pub searched_more : {stations' : ℕ} {seen' : List Bool} → None ≡ fault f stations i (get_or seen (place x) false) x → stations' ≡ stations → seen' ≡ set seen (place x) true → Searched f n rs (i + 1) stations' seen'
  searched_more none same after = record {
    of_plan = same ∙ so_far.of_plan;
    table = rw (after, parts.0) (holds_more seen (take i (map first_fields rs)) x (sound_low f stations i (get_or seen (place x) false) x (omega (arith, few, so_far.of_plan)) (sym none)) so_far.table);
    rest = rw (← none) at split;
  }
