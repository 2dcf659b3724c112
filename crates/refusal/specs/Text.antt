-- Refusals as text, in one line and with one blank between fields.
--
--   facts_text facts    what a refusal names: a failing station and its cause; or the record, and where that record is at fault, the
--                       fault's number
--   code_text c         the number, then what it names
--   layer_name l        the name of a layer
use Rattle.std.specs.Prelude.{ℕ, List, [], ◌++◌, codes, decimal}
use Rattle.refusal.specs.declared.Code.{Code}
use Rattle.refusal.specs.declared.Facts.{Facts}
use Rattle.refusal.specs.declared.Facts.TheVariants.{AtRecord, AtStation, Bare, Below}
use Rattle.refusal.specs.declared.Layer.{Layer}
use Rattle.refusal.specs.declared.Layer.TheVariants as layer

abbrev pub facts_text : Facts → List ℕ
facts_text Bare = []
facts_text (AtStation f) = codes " " ++ (decimal f.station ++ (codes " " ++ decimal f.cause))
facts_text (AtRecord k) = codes " " ++ decimal k
facts_text (Below k inner l) = codes " " ++ (decimal k ++ (codes " " ++ decimal inner))

abbrev pub code_text : Code → List ℕ
code_text c = decimal c.number ++ facts_text c.facts

abbrev pub layer_name : Layer → List ℕ
layer_name layer.Field = codes "field"
layer_name layer.Record = codes "record"
