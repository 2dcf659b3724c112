-- Writing: which refusal a plan meets that is written into a buffer.
--
--   first_outside f k xs               the first of the records xs, which count from k, whose cost is outside the link range
--   writing_refusal m f n links room   the first refusal that fits n stations and links in a buffer of so many bytes
use Rattle.std.specs.Prelude.{ℕ, ◌+◌, ◌*◌, List, map, length, Option, nat_lt}
use Rattle.std.specs.List.{position_from}
use Rattle.std.specs.Option.{option_map}
use Rattle.cost.specs.Kind.{Kind}
use Rattle.cost.specs.declared.link.Link.{Link}
use Rattle.filekind.specs.Format.{Format}
use Rattle.filekind.specs.Outside.{outside}
use Rattle.refusal.specs.Code.{bare}
use Rattle.refusal.specs.First.{refused_if}
use Rattle.refusal.specs.declared.Code.{Code}
use Rattle.refusal.specs.declared.Facts.TheVariants.{AtRecord}
use Rattle.planfile.specs.Records.{fields_of}
use Rattle.planfile.specs.declared.fields.Fields.{Fields}

abbrev pub first_outside : Format → ℕ → List Fields → Option Code
first_outside f k xs = option_map (λ i. record { number = 21; facts = AtRecord i }) (position_from (λ x. outside f.low f.high x.number) k xs)

abbrev pub writing_refusal : {K : Type 0} → Kind K → Format → ℕ → List (Link K) → ℕ → Option Code
writing_refusal m f n links room =
    refused_if (outside 1 256 n) (bare 1)
    (refused_if (nat_lt 4096 (length links)) (bare 2)
    (refused_if (nat_lt room (10 + 12 * length links)) (bare 12)
    (first_outside f 0 (map (fields_of m) links))))
