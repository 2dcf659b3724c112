-- A plan and its file of sum, byte by byte.
--
--   worked_links      the links of a plan of 256 stations: from 0 to 255 at 258, and from 255 to 1 at 1,000,000,000
--   worked_records    the fields of their records
--   worked_bytes      the bytes of the file
--   least_bytes       the bytes of the least file, of one station and no link
use Rattle.std.specs.Prelude.{ℕ, List, [], ◌∷◌}
use Rattle.cost.specs.Sum.{sum_cost}
use Rattle.cost.specs.declared.link.Link.{Link}
use Rattle.cost.specs.declared.sum.Sum.{Sum}
use Rattle.planfile.specs.declared.fields.Fields.{Fields}

abbrev pub worked_links : List (Link Sum)
worked_links =
    record { from = 0; to = 255; cost = sum_cost 258 }
    ∷ record { from = 255; to = 1; cost = sum_cost 1000000000 }
    ∷ []

abbrev pub worked_records : List Fields
worked_records =
    record { from = 0; to = 255; number = 258 }
    ∷ record { from = 255; to = 1; number = 1000000000 }
    ∷ []

abbrev pub worked_bytes : List ℕ
worked_bytes =
    67 ∷ 80 ∷ 76 ∷ 0 ∷ 1 ∷ 0 ∷ 1 ∷ 0 ∷ 0 ∷ 2
    ∷ 0 ∷ 0 ∷ 0 ∷ 255 ∷ 0 ∷ 0 ∷ 0 ∷ 0 ∷ 0 ∷ 0 ∷ 1 ∷ 2
    ∷ 0 ∷ 255 ∷ 0 ∷ 1 ∷ 0 ∷ 0 ∷ 0 ∷ 0 ∷ 59 ∷ 154 ∷ 202 ∷ 0
    ∷ []

abbrev pub least_bytes : List ℕ
least_bytes = 67 ∷ 80 ∷ 76 ∷ 0 ∷ 1 ∷ 0 ∷ 0 ∷ 1 ∷ 0 ∷ 0 ∷ []
