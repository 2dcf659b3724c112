-- The file that a plan was written as is read as its stations and links again.
use Rattle.std.proofs.Common.{◌≡◌, ℕ, ◌*◌, ◌≤◌, ◌||◌, List, map, length, take, Bool, true, false, None, Some, Option, Result, Ok, Err, IfOk, nat_lt, sym, arith}
use Rattle.std.proofs.lemmas.Bool.Decides.{nat_tests}
use Rattle.std.specs.Option.{option_or}
use Rattle.cost.specs.Kind.{Kind}
use Rattle.refusal.specs.Code.{bare}
use Rattle.refusal.specs.First.{refused_if, told}
use Rattle.refusal.specs.declared.Refusal.{Refusal}
use Rattle.filekind.specs.Format.{Format}
use Rattle.planfile.specs.Encoding.{file_of}
use Rattle.planfile.specs.Reading.{header_refusal, reading_refusal, stations_of}
use Rattle.planfile.specs.Records.{fields_of}
use Rattle.planfile.specs.RoundTrip.{ReadsBack}
use Rattle.planfile.specs.Sound.{Sound}
use Rattle.planfile.specs.Writing.{writing_refusal}
use Rattle.ledger.specs.View.{View}
use Rattle.tables.specs.Read.{file_refusal}
use Rattle.tables.specs.Rereads.{ReadAgain, Rereads}
use Rattle.tables.proofs.SoundLinks.{fair_sound}

-- a test that passes, between the first tests and all of them
passes_on : {A : Type 0} (first rest : Option A) (test : Bool) (code : A) → test ≡ false → option_or first rest ≡ None
    → option_or first (refused_if test code (option_or first rest)) ≡ None
passes_on None rest true code passes none = absurd cc
passes_on None rest false code passes none = none
passes_on (Some first) rest test code passes none = none

-- a file that a list can take is accepted beside tables that are large enough
accepted_beside : (f : Format) (places costs predecessors n : ℕ) (bs : List ℕ) → stations_of bs ≡ n → n * n ≤ costs
    → n * n ≤ predecessors → reading_refusal f places bs ≡ None → file_refusal f places costs predecessors bs ≡ None
accepted_beside f places costs predecessors n bs stations fit_costs fit_predecessors none =
    let cells = stations_of bs * stations_of bs in
    let large : (nat_lt costs cells || nat_lt predecessors cells) ≡ false = rw stations (grind (arith, nat_tests)) in
    passes_on (header_refusal f places bs) _ (nat_lt costs cells || nat_lt predecessors cells) (bare 19) large none

module _ {K : Type 0} (m : Kind K) (formed : ℕ → Option K) (f : Format) (v : View K) where
  abbrev file : List ℕ
  file = file_of m f v.ledger.stations v.ledger.links

  abbrev Back : List ℕ → Type 0
  Back bs = ReadsBack m formed f v.ledger.stations v.ledger.links bs

  again : (bs : List ℕ) → Back bs → ReadAgain m formed f v.ledger bs
  again bs back = record {
    accepted = λ places costs predecessors some few enough fit_costs fit_predecessors.
        accepted_beside f places costs predecessors v.ledger.stations bs back.stations fit_costs fit_predecessors
        (back.accepted places some few enough);
    stations = back.stations;
    same = back.same;
  }

  -- a plan that stands has links that make a sound file
  pub written_again : (old new : List ℕ) (r : Result ℕ Refusal)
      → told r ≡ writing_refusal m f v.ledger.stations v.ledger.links (length old)
      → IfOk r (λ l. Sound f v.ledger.stations (map (fields_of m) v.ledger.links) → Back (take l new)) → Rereads m formed f v r new
  written_again old new (Ok l) refused back = record {
    by_log = λ start log stands.
        again (take l new) (back (fair_sound m f v.ledger.stations v.ledger.links (length old) stands.holds.fair (sym refused)));
  }
  written_again old new (Err refusal) refused back = record { by_log = λ start log stands. tt }
