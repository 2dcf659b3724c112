-- A header that passes every test, of a file that is as long as its counts require, leaves the verdict to the records.
use Rattle.std.proofs.Common.{◌≡◌, ℕ, ◌+◌, ◌*◌, List, [], length, arith}
use Rattle.std.proofs.lemmas.Bool.Decides.{nat_tests}
use Rattle.std.specs.Option.{option_map}
use Rattle.filekind.specs.Format.{Format}
use Rattle.planfile.specs.Faults.{first_fault}
use Rattle.planfile.specs.Header.{Passes}
use Rattle.planfile.specs.Reading.{count_of, reading_refusal, faulty_record, file_records, stations_of}

pub left_to_records : (f : Format) (places : ℕ) (bs : List ℕ) → Passes f places bs → length bs ≡ 10 + 12 * count_of bs
    → reading_refusal f places bs ≡ option_map faulty_record (first_fault f (stations_of bs) [] (file_records bs))
left_to_records f places bs passes long = grind (arith, nat_tests)
