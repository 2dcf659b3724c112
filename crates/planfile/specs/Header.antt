-- A header that passes every test, in a list of so many places: what its tests come to, one by one.
--
--   Passes f places bs    places and counts in their ranges, and mark, version and kind byte as they should be
use Rattle.std.specs.Prelude.{◌≡◌, ℕ, ◌≤◌, List, length, slice_index_or}
use Rattle.filekind.specs.Format.{Format}
use Rattle.planfile.specs.Bytes.{number_at}
use Rattle.planfile.specs.Reading.{count_of, stations_of}

pub record Passes (f : Format) (places : ℕ) (bs : List ℕ) : Type 0 where
  pub some_places : 1 ≤ places
  pub few_places : places ≤ 4096
  pub header : 10 ≤ length bs
  pub mark_0 : slice_index_or bs 0 0 ≡ 67
  pub mark_1 : slice_index_or bs 1 0 ≡ 80
  pub mark_2 : slice_index_or bs 2 0 ≡ 76
  pub version : number_at 2 bs 3 ≡ 1
  pub kind : slice_index_or bs 5 0 ≡ f.byte
  pub some_stations : 1 ≤ stations_of bs
  pub few_stations : stations_of bs ≤ 256
  pub enough_places : count_of bs ≤ places
