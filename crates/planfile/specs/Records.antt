-- Records: a link in 12 bytes, by the numbers of its three fields.
--
--   first_fields bs           the fields of the record that bs begins with
--   records_of count bs       the fields of the first records of bs, so many, 12 bytes each
--   field_bytes x             the 12 bytes of a record
--   fields_of m l             the fields of a link: its stations and the rank of its cost
--   link_of m formed x        the link that fields stand for
use Rattle.std.specs.Prelude.{ℕ, List, ◌++◌, map, Option}
use Rattle.std.specs.Option.{unwrap_or}
use Rattle.std.specs.Simd.{first_chunks}
use Rattle.cost.specs.Kind.{Kind}
use Rattle.cost.specs.declared.link.Link.{Link}
use Rattle.planfile.specs.Bytes.{bytes, number_at}
use Rattle.planfile.specs.declared.fields.Fields.{Fields}

abbrev pub first_fields : List ℕ → Fields
first_fields bs = record { from = number_at 2 bs 0; to = number_at 2 bs 2; number = number_at 8 bs 4 }

abbrev pub records_of : ℕ → List ℕ → List Fields
records_of count bs = map first_fields (first_chunks 12 count bs)

abbrev pub field_bytes : Fields → List ℕ
field_bytes x = bytes 2 x.from ++ (bytes 2 x.to ++ bytes 8 x.number)

abbrev pub fields_of : {K : Type 0} → Kind K → Link K → Fields
fields_of m l = record { from = l.from; to = l.to; number = m.rank l.cost }

abbrev pub link_of : {K : Type 0} → Kind K → (ℕ → Option K) → Fields → Link K
link_of m formed x = record { from = x.from; to = x.to; cost = unwrap_or (formed x.number) m.far }
