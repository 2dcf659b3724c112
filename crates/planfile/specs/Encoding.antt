-- The encoding: the bytes of a plan file, from the number of stations and the links.
--
--   mark                     the three bytes that a plan file begins with
--   header f n count         the 10 bytes before the records: mark, version 1, kind byte, n, number of links
--   encoding f n xs          the file of n stations and records xs
--   file_of m f n links      the file of n stations and links
use Rattle.std.specs.Prelude.{ℕ, List, ◌++◌, map, length, codes}
use Rattle.std.specs.List.{flat_map}
use Rattle.cost.specs.Kind.{Kind}
use Rattle.cost.specs.declared.link.Link.{Link}
use Rattle.filekind.specs.Format.{Format}
use Rattle.planfile.specs.Bytes.{bytes}
use Rattle.planfile.specs.Records.{field_bytes, fields_of}
use Rattle.planfile.specs.declared.fields.Fields.{Fields}

abbrev pub mark : List ℕ
mark = codes "CPL"

abbrev pub header : Format → ℕ → ℕ → List ℕ
header f n count = mark ++ (bytes 2 1 ++ (bytes 1 f.byte ++ (bytes 2 n ++ bytes 2 count)))

abbrev pub encoding : Format → ℕ → List Fields → List ℕ
encoding f n xs = header f n (length xs) ++ flat_map field_bytes xs

abbrev pub file_of : {K : Type 0} → Kind K → Format → ℕ → List (Link K) → List ℕ
file_of m f n links = encoding f n (map (fields_of m) links)
