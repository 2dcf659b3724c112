-- Records and their bytes: the fields of a list's records are those whose bytes the list is.
use Rattle.std.proofs.Common.{◌≡◌, ℕ, zero, suc, ◌+◌, ◌*◌, List, [], ◌∷◌, ◌++◌, length, take, drop, sym, refl, ◌∙◌, ap₂, arith}
use Rattle.std.proofs.lemmas.Grind.{common_steps}
use Rattle.std.proofs.lemmas.List.{get_or-drop, take-append-drop, length-drop, length-take-le, nil_from_length}
use Rattle.std.specs.List.{flat_map, AllByRecursion}
use Rattle.planfile.specs.Records.{field_bytes, first_fields, records_of}
use Rattle.planfile.specs.RoundTrip.{FieldsFit}
use Rattle.planfile.specs.declared.fields.Fields.{Fields}
use Rattle.planfile.proofs.Codec.{Small, bytes_of_number, number_of_bytes}

-- twelve bytes are those of the fields that they stand for
bytes_of_first : (bs : List ℕ) → length bs ≡ 12 → Small bs → field_bytes (first_fields bs) ≡ bs
bytes_of_first bs long small =
    ap₂ ◌++◌ (bytes_of_number 2 bs 0 (omega arith) small) (ap₂ ◌++◌ (bytes_of_number 2 bs 2 (omega arith) small) (bytes_of_number 8 bs 4 (omega arith) small))
    ∙ grind (arith, common_steps)

-- bytes without the first n are bytes
pub small_drop : (n : ℕ) (bs : List ℕ) → Small bs → Small (drop n bs)
small_drop n bs small i = rw get_or-drop (small (n + i))

-- the first n bytes are bytes
small_take : (n : ℕ) (bs : List ℕ) → Small bs → Small (take n bs)
small_take n bs small i = grind (arith, common_steps, small i)

-- whole records are the bytes of their fields
pub bytes_of_records : (count : ℕ) (bs : List ℕ) → length bs ≡ 12 * count → Small bs → flat_map field_bytes (records_of count bs) ≡ bs
bytes_of_records zero bs long small = sym (nil_from_length bs long)
bytes_of_records (suc count) bs long small =
    ap₂ ◌++◌ (bytes_of_first (take 12 bs) (length-take-le 12 bs (omega arith)) (small_take 12 bs small)) (bytes_of_records count (drop 12 bs) (simp length-drop (omega arith)) (small_drop 12 bs small))
    ∙ take-append-drop 12 bs

-- the bytes of fields have those fields
first_of_bytes : (x : Fields) → FieldsFit x → first_fields (field_bytes x) ≡ x
first_of_bytes x fit =
    let bs = field_bytes x in
    rw (number_of_bytes 2 x.from bs _ 0 refl fit.from, number_of_bytes 2 x.to bs _ 2 refl fit.to, number_of_bytes 8 x.number bs [] 4 refl fit.number)

-- the bytes of records have those records
pub records_of_bytes : (xs : List Fields) → AllByRecursion FieldsFit xs → records_of (length xs) (flat_map field_bytes xs) ≡ xs
records_of_bytes [] fit = refl
records_of_bytes (x ∷ xs) fit = ap₂ ◌∷◌ (first_of_bytes x fit.0) (records_of_bytes xs fit.1)

-- a record has twelve bytes
pub length-records : (xs : List Fields) → length (flat_map field_bytes xs) ≡ 12 * length xs
length-records [] = refl
length-records (x ∷ xs) = omega (arith, length-records xs)

-- so many records are read as are asked for
pub length-records_of : (count : ℕ) (bs : List ℕ) → length (records_of count bs) ≡ count
length-records_of zero bs = refl
length-records_of (suc count) bs = omega (arith, length-records_of count (drop 12 bs))
