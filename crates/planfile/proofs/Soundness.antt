-- A file is accepted exactly when it holds a sound plan that the list has places for.
use Rattle.std.proofs.Common.{◌≡◌, ℕ, ◌+◌, ◌*◌, Bool, true, false, List, [], ◌∷◌, ◌++◌, Some, None, Option, length, refl, arith}
use Rattle.std.proofs.lemmas.Bool.Decides.{nat_tests}
use Rattle.std.specs.Option.{option_map, option_or}
use Rattle.std.specs.List.{AllByRecursion}
use Rattle.filekind.specs.Format.{Format}
use Rattle.refusal.specs.First.{refused_if}
use Rattle.planfile.specs.Faults.{first_fault, repeats}
use Rattle.planfile.specs.Header.{Passes}
use Rattle.planfile.specs.Reading.{count_of, header_refusal, reading_refusal, faulty_record, file_records, stations_of}
use Rattle.planfile.specs.Sound.{Differs, Laid}
use Rattle.planfile.specs.declared.fields.Fields.{Fields}

-- a test that refuses nothing fails, and leaves the rest
not_refused : {A : Type 0} (test : Bool) (c : A) (rest : Option A) → refused_if test c rest ≡ None → (test ≡ false) × (rest ≡ None)
not_refused true c rest e = absurd cc
not_refused false c rest e = (refl, e)

-- a map over an option gives nothing only where there is nothing
none_of_mapped : {A B : Type 0} (g : A → B) (o : Option A) → option_map g o ≡ None → o ≡ None
none_of_mapped g None e = refl
none_of_mapped g (Some x) e = cc

-- of two options the first that has a value is none only where both are
none_of_either : {A : Type 0} (o p : Option A) → option_or o p ≡ None → (o ≡ None) × (p ≡ None)
none_of_either None p e = (refl, e)
none_of_either (Some x) p e = absurd cc

-- a header that is not refused passes each test
pub passes_from_none : (f : Format) (places : ℕ) (bs : List ℕ) → header_refusal f places bs ≡ None → Passes f places bs
passes_from_none f places bs e = grind (arith, nat_tests, not_refused)

-- a file that is not refused passes the header's tests, is as long as its counts require, and its records have no fault
pub parts_from_none : (f : Format) (places : ℕ) (bs : List ℕ) → reading_refusal f places bs ≡ None
    → Passes f places bs × (length bs ≡ 10 + 12 * count_of bs) × (first_fault f (stations_of bs) [] (file_records bs) ≡ None)
parts_from_none f places bs e = grind (arith, nat_tests, not_refused, none_of_either, none_of_mapped faulty_record, passes_from_none f places bs)

-- a record whose pair is not repeated differs from each of those before it
differs_from_none : (earlier : List Fields) (x : Fields) → repeats earlier x ≡ false → AllByRecursion (λ y. Differs y x) earlier
differs_from_none [] x e = tt
differs_from_none (y ∷ ys) x e = (λ from to. grind (arith, nat_tests), differs_from_none ys x (grind (arith, nat_tests)))

-- a record that differs from each of those before it repeats no pair
none_from_differs : (earlier : List Fields) (x : Fields) → AllByRecursion (λ y. Differs y x) earlier → repeats earlier x ≡ false
none_from_differs [] x all = refl
none_from_differs (y ∷ ys) x all = grind (arith, nat_tests, all.0, none_from_differs ys x all.1)

-- records without a fault may follow those before them
pub laid_from_none : (f : Format) (n : ℕ) (earlier xs : List Fields) → first_fault f n earlier xs ≡ None → Laid f n earlier xs
laid_from_none f n earlier [] e = tt
laid_from_none f n earlier (x ∷ xs) e = grind (arith, nat_tests, differs_from_none earlier x, laid_from_none f n (earlier ++ x ∷ []) xs)

-- records that may follow those before them have no fault
pub none_from_laid : (f : Format) (n : ℕ) (earlier xs : List Fields) → Laid f n earlier xs → first_fault f n earlier xs ≡ None
none_from_laid f n earlier [] laid = refl
none_from_laid f n earlier (x ∷ xs) laid = grind (arith, nat_tests, none_from_differs earlier x laid.0.new, none_from_laid f n (earlier ++ x ∷ []) xs laid.1)
