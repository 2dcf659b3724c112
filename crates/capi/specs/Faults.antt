-- Why a call of a program in C is turned down: by a refusal of the library, or since it names no method or no queue.
--
--   code_of_fault f    the number and facts of a fault
--   fault_of r         what a call's answer tells of its fault, or none where it is accepted
use Rattle.std.specs.Prelude.{Some, None, Ok, Err, Option, Result}
use Rattle.refusal.specs.Code.{bare, code_of}
use Rattle.refusal.specs.declared.Code.{Code}
use Rattle.capi.specs.declared.fault.Fault.{Fault}
use Rattle.capi.specs.declared.fault.Fault.TheVariants.{Plan, NoMethod, NoQueue}

abbrev pub code_of_fault : Fault → Code
code_of_fault (Plan why) = code_of why
code_of_fault NoMethod = bare 101
code_of_fault NoQueue = bare 102

abbrev pub fault_of : {T : Type 0} → Result T Fault → Option Code
fault_of (Ok x) = None
fault_of (Err f) = Some (code_of_fault f)
