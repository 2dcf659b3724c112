-- The numbering of refusals: each case with its number and the facts that it names.
--
--   bare n           number n, and nothing besides
--   field_code f     what a faulty field tells by itself: 21 and its record
--   fault_code f     what a faulty record tells: the index of its record, the fault's own number, and the fault's layer
--   code_of r        the number and facts of a refusal
use Rattle.std.specs.Prelude.{ℕ}
use Rattle.refusal.specs.declared.Code.{Code}
use Rattle.refusal.specs.declared.Facts.{Facts}
use Rattle.refusal.specs.declared.Facts.TheVariants.{Bare, AtStation, AtRecord, Below}
use Rattle.refusal.specs.declared.FieldFault.{FieldFault}
use Rattle.refusal.specs.declared.Layer.TheVariants as layer
use Rattle.refusal.specs.declared.RecordFault.{RecordFault}
use Rattle.refusal.specs.declared.RecordFault.TheVariants as fault
use Rattle.refusal.specs.declared.Refusal.{Refusal}
use Rattle.refusal.specs.declared.Refusal.TheVariants as refusal

abbrev pub bare : ℕ → Code
bare n = record { number = n; facts = Bare }

abbrev pub field_code : FieldFault → Code
field_code f = record { number = 21; facts = AtRecord f.index }

abbrev pub fault_code : RecordFault → Facts
fault_code (fault.Field f) = Below f.index 21 layer.Field
fault_code (fault.NoStation k) = Below k 3 layer.Record
fault_code (fault.SelfLink k) = Below k 4 layer.Record
fault_code (fault.Repeated k) = Below k 6 layer.Record

abbrev pub code_of : Refusal → Code
code_of refusal.StationCount = bare 1
code_of refusal.Places = bare 2
code_of refusal.NoStation = bare 3
code_of refusal.SelfLink = bare 4
code_of refusal.LinkCost = bare 5
code_of refusal.Repeated = bare 6
code_of refusal.Full = bare 7
code_of refusal.NoLink = bare 8
code_of refusal.Worked = bare 9
code_of refusal.Unworked = bare 10
code_of refusal.Far = bare 11
code_of refusal.ShortBuffer = bare 12
code_of refusal.RowLength = bare 13
code_of (refusal.Row f) = record { number = 14; facts = AtStation f }
code_of refusal.ShortHeader = bare 15
code_of refusal.Mark = bare 16
code_of refusal.Version = bare 17
code_of refusal.Kind = bare 18
code_of refusal.Counts = bare 19
code_of refusal.Length = bare 20
code_of refusal.NoCost = bare 21
code_of (refusal.Field f) = field_code f
code_of (refusal.Record f) = record { number = 22; facts = fault_code f }
