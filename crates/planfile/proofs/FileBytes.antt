-- Whole files: a file whose header passes is the encoding of its counts and records, and an encoding reads back.
use Rattle.std.proofs.Common.{◌≡◌, ℕ, ◌+◌, ◌*◌, ◌<◌, ◌≤◌, List, ◌++◌, map, length, drop, refl, arith, rules}
use Rattle.std.proofs.lemmas.Grind.{common_steps}
use Rattle.std.proofs.lemmas.List.{length-drop, length-map}
use Rattle.std.specs.List.{flat_map, AllByRecursion}
use Rattle.cost.specs.Kind.{Kind}
use Rattle.cost.specs.declared.link.Link.{Link}
use Rattle.filekind.specs.Format.{Format}
use Rattle.planfile.specs.Bytes.{bytes}
use Rattle.planfile.specs.Encoding.{encoding, file_of}
use Rattle.planfile.specs.Header.{Passes}
use Rattle.planfile.specs.Reading.{file_records, stations_of, count_of}
use Rattle.planfile.specs.Records.{field_bytes, fields_of}
use Rattle.planfile.specs.RoundTrip.{FieldsFit}
use Rattle.planfile.specs.declared.fields.Fields.{Fields}
use Rattle.planfile.proofs.Codec.{Small, number_of_bytes}
use Rattle.planfile.proofs.RecordBytes.{bytes_of_records, records_of_bytes, length-records, length-records_of, small_drop}

module _ (f : Format) (places : ℕ) (bs : List ℕ) (passes : Passes f places bs) (long : length bs ≡ 10 + 12 * count_of bs) (small : Small bs) where
  -- a file whose header passes is the encoding of what it holds
  pub file_is_encoding : encoding f (stations_of bs) (file_records bs) ≡ bs
  file_is_encoding =
      let counted = length-records_of (count_of bs) (drop 10 bs) in
      let records = bytes_of_records (count_of bs) (drop 10 bs) (simp length-drop (omega (arith, long))) (small_drop 10 bs small) in
      grind (arith, common_steps, small 5, small 6, small 7, small 8, small 9)

-- an encoding reads back
module _ (f : Format) (n : ℕ) (xs : List Fields) where
  -- its number of stations
  pub stations_read_back : n < 65536 → stations_of (encoding f n xs) ≡ n
  stations_read_back fits = number_of_bytes 2 n (encoding f n xs) (bytes 2 (length xs) ++ flat_map field_bytes xs) 6 refl fits

  -- its number of records
  pub count_read_back : length xs < 65536 → count_of (encoding f n xs) ≡ length xs
  count_read_back fits = number_of_bytes 2 (length xs) (encoding f n xs) (flat_map field_bytes xs) 8 refl fits

  -- its records
  pub records_read_back : length xs < 65536 → AllByRecursion FieldsFit xs → file_records (encoding f n xs) ≡ xs
  records_read_back fits fit = rw (count_read_back fits) (records_of_bytes xs fit)

  -- so long it is
  pub length-encoding : length (encoding f n xs) ≡ 10 + 12 * length xs
  length-encoding = omega (arith, length-records xs)

  -- its header passes
  pub encoding_passes : (places : ℕ) → f.byte < 256 → 1 ≤ places → places ≤ 4096 → 1 ≤ n → n ≤ 256 → length xs ≤ places → Passes f places (encoding f n xs)
  encoding_passes places byte some few one up fits =
      let stations = stations_read_back (omega arith) in
      let count = count_read_back (omega arith) in
      let long = length-encoding in
      search rules

-- so long is the file of links
pub length-file : {K : Type 0} (m : Kind K) (f : Format) (n : ℕ) (links : List (Link K)) → length (file_of m f n links) ≡ 10 + 12 * length links
length-file m f n links = omega (arith, length-encoding f n (map (fields_of m) links), length-map links (fields_of m))
