-- The first refusal that fits.
--
--   refused_if test c rest    c where the test holds, else what the rest says: tests are tried in the order of the text
--   told r                    what a call's answer tells of its refusal: its code, or none where it is accepted
--   fault_told r              the same of a faulty record
--   field_told r              the same of a faulty field, told by itself
use Rattle.std.specs.Prelude.{Bool, cond, Some, None, Ok, Err, Option, Result}
use Rattle.refusal.specs.Code.{code_of, fault_code, field_code}
use Rattle.refusal.specs.declared.Code.{Code}
use Rattle.refusal.specs.declared.Facts.{Facts}
use Rattle.refusal.specs.declared.FieldFault.{FieldFault}
use Rattle.refusal.specs.declared.RecordFault.{RecordFault}
use Rattle.refusal.specs.declared.Refusal.{Refusal}

abbrev pub refused_if : {A : Type 0} → Bool → A → Option A → Option A
refused_if test c rest = cond test (Some c) rest

abbrev pub told : {T : Type 0} → Result T Refusal → Option Code
told (Ok x) = None
told (Err e) = Some (code_of e)

abbrev pub fault_told : {T : Type 0} → Result T RecordFault → Option Facts
fault_told (Ok x) = None
fault_told (Err e) = Some (fault_code e)

abbrev pub field_told : {T : Type 0} → Result T FieldFault → Option Code
field_told (Ok x) = None
field_told (Err e) = Some (field_code e)
