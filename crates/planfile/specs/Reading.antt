-- Reading: which refusal a file meets, and what an accepted file holds.
--
--   stations_of bs, count_of bs        the two counts of a header
--   counts_of bs                       both of them
--   links_of m formed bs               the links of the records
--   file_records bs                    the fields of the records that a file counts
--   marked bs                          the file begins with the mark
--   header_refusal f places bs         the first refusal that fits the header of a file, for a list of so many places
--   reading_refusal f places bs        the first refusal that fits a file read into a list of so many places
use Rattle.std.specs.Prelude.{ℕ, ◌+◌, ◌*◌, Bool, not, ◌&&◌, ◌||◌, List, [], map, length, drop, None, Option, ◌==◌, nat_lt, slice_index}
use Rattle.std.specs.Option.{option_map, option_or}
use Rattle.cost.specs.Kind.{Kind}
use Rattle.cost.specs.declared.link.Link.{Link}
use Rattle.filekind.specs.Format.{Format}
use Rattle.filekind.specs.Outside.{outside}
use Rattle.refusal.specs.Code.{bare}
use Rattle.refusal.specs.First.{refused_if}
use Rattle.refusal.specs.declared.Code.{Code}
use Rattle.refusal.specs.declared.Facts.{Facts}
use Rattle.planfile.specs.Bytes.{number_at}
use Rattle.planfile.specs.Faults.{first_fault}
use Rattle.planfile.specs.Records.{link_of, records_of}
use Rattle.planfile.specs.declared.counts.Counts.{Counts}
use Rattle.planfile.specs.declared.fields.Fields.{Fields}

abbrev pub stations_of : List ℕ → ℕ
stations_of bs = number_at 2 bs 6

abbrev pub count_of : List ℕ → ℕ
count_of bs = number_at 2 bs 8

abbrev pub counts_of : List ℕ → Counts
counts_of bs = record { stations = stations_of bs; links = count_of bs }

abbrev pub file_records : List ℕ → List Fields
file_records bs = records_of (count_of bs) (drop 10 bs)

abbrev pub links_of : {K : Type 0} → Kind K → (ℕ → Option K) → List ℕ → List (Link K)
links_of m formed bs = map (link_of m formed) (file_records bs)

abbrev pub marked : List ℕ → Bool
marked bs = slice_index bs 0 == 67 && (slice_index bs 1 == 80 && slice_index bs 2 == 76)

abbrev pub faulty_record : Facts → Code
faulty_record facts = record { number = 22; facts = facts }

abbrev pub header_refusal : Format → ℕ → List ℕ → Option Code
header_refusal f places bs =
    refused_if (outside 1 4096 places) (bare 2)
    (refused_if (nat_lt (length bs) 10) (bare 15)
    (refused_if (not (marked bs)) (bare 16)
    (refused_if (not (number_at 2 bs 3 == 1)) (bare 17)
    (refused_if (not (slice_index bs 5 == f.byte)) (bare 18)
    (refused_if (outside 1 256 (stations_of bs) || nat_lt places (count_of bs)) (bare 19) None)))))

abbrev pub reading_refusal : Format → ℕ → List ℕ → Option Code
reading_refusal f places bs =
    option_or (header_refusal f places bs)
    (refused_if (not (length bs == 10 + 12 * count_of bs)) (bare 20)
    (option_map faulty_record (first_fault f (stations_of bs) [] (file_records bs))))
