-- The worked file is that of a sound plan, and so what is promised of such plans holds of it.
use Rattle.std.proofs.Common.{◌≡◌, ℕ, ◌≤◌, Bool, true, List, [], length, None, sym, refl, arith}
use Rattle.cost.specs.Sum.{sum_kind}
use Rattle.cost.specs.declared.link.Link.{Link}
use Rattle.cost.specs.declared.sum.Sum.{Sum}
use Rattle.filekind.specs.Format.{sum_format}
use Rattle.planfile.specs.Encoding.{encoding, file_of}
use Rattle.planfile.specs.RoundTrip.{Accepts, Holds, PlanFits, Unambiguous}
use Rattle.planfile.specs.Sound.{Sound}
use Rattle.planfile.specs.Writing.{writing_refusal}
use Rattle.planfile.specs.Worked.{least_bytes, worked_bytes, worked_links, worked_records}
use Rattle.planfile.specs.declared.fields.Fields.{Fields}
use Rattle.planfile.proofs.Soundness.{laid_from_none}

worked_sound : Sound sum_format 256 worked_records
worked_sound = record { some = omega arith; few = omega arith; short = omega arith; laid = laid_from_none sum_format 256 [] worked_records refl }

worked_fits : PlanFits 256 worked_records
worked_fits = record {
  stations = omega arith;
  count = omega arith;
  fields = (record { from = omega arith; to = omega arith; number = omega arith }, (record { from = omega arith; to = omega arith; number = omega arith }, tt));
}

pub worked_file_of : file_of sum_kind sum_format 256 worked_links ≡ worked_bytes
worked_file_of = refl

pub worked_accepted : (places : ℕ) (ok : Bool) → 2 ≤ places → places ≤ 4096 → Accepts sum_format places worked_bytes ok → ok ≡ true
worked_accepted places ok enough few accepts = accepts 256 worked_records worked_sound (omega arith) few enough refl

pub least_accepted : (ok : Bool) → Accepts sum_format 1 least_bytes ok → ok ≡ true
least_accepted ok accepts = accepts 1 [] (record { some = omega arith; few = omega arith; short = omega arith; laid = tt }) (omega arith) (omega arith) (omega arith) refl

pub worked_held : (bs : List ℕ) → Holds sum_kind sum_format 256 worked_links bs → bs ≡ worked_bytes
worked_held bs holds = sym holds.encoded

pub written_back : (n : ℕ) (links : List (Link Sum)) (bs : List ℕ) → Holds sum_kind sum_format n links bs → writing_refusal sum_kind sum_format n links (length bs) ≡ None
written_back n links bs holds = holds.writable (length bs) (omega arith)

pub worked_alone : Unambiguous sum_format → (n : ℕ) (xs : List Fields) → PlanFits n xs → encoding sum_format n xs ≡ worked_bytes → (n ≡ 256) × (xs ≡ worked_records)
worked_alone unambiguous n xs fit same = unambiguous n 256 xs worked_records fit worked_fits same

-- what the contract wants
pub ruleset worked_out = (worked_file_of, worked_accepted, least_accepted, worked_held, written_back, worked_alone)
