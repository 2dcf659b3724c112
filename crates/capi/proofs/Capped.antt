-- Tables of as many cells as the largest plan needs are enough for every file.
use Rattle.std.specs.Prelude.{◌≡◌, ℕ, ◌*◌, ◌≤◌, ◌||◌, Bool, false, List, Some, None, Option, length, min, nat_lt, take}
use Rattle.std.specs.Option.{option_or}
use Rattle.std.proofs.Common.{◌∙◌, refl, sym, arith, ap, mul-le-mul}
use Rattle.std.proofs.lemmas.Bool.Decides.{nat_tests}
use Rattle.std.proofs.lemmas.List.{length-take}
use Rattle.filekind.specs.Format.{Format}
use Rattle.planfile.specs.Reading.{header_refusal, reading_refusal, stations_of}
use Rattle.planfile.proofs.Soundness.{passes_from_none}
use Rattle.refusal.specs.Code.{bare}
use Rattle.refusal.specs.First.{refused_if}
use Rattle.refusal.specs.declared.Code.{Code}
use Rattle.tables.specs.Read.{file_refusal}

squared : (n : ℕ) → n ≤ 256 → n * n ≤ 65536
squared n few = mul-le-mul few few

module _ (f : Format) (places : ℕ) (bs : List ℕ) where
  abbrev cells : ℕ
  cells = stations_of bs * stations_of bs

  -- where the header passes, the largest table has a cell for each pair of stations
  cells_few : header_refusal f places bs ≡ None → cells ≤ 65536
  cells_few none = squared (stations_of bs) (passes_from_none f places bs none).few_stations

  capped_tests : (a b : ℕ) → cells ≤ 65536 → (nat_lt (min a 65536) cells || nat_lt (min b 65536) cells) ≡ (nat_lt a cells || nat_lt b cells)
  capped_tests a b few = grind (arith, nat_tests)

  alike : (tests tests' : Bool) (header : Option Code) → (header ≡ None → tests ≡ tests') → option_or header (refused_if tests (bare 19) (reading_refusal f places bs)) ≡ option_or header (refused_if tests' (bare 19) (reading_refusal f places bs))
  alike tests tests' None same = ap (λ t. refused_if t (bare 19) (reading_refusal f places bs)) (same refl)
  alike tests tests' (Some c) same = refl

  pub file_capped : (a b : ℕ) → file_refusal f places (min a 65536) (min b 65536) bs ≡ file_refusal f places a b bs
  file_capped a b = alike _ _ (header_refusal f places bs) (λ none. capped_tests a b (cells_few none))

  -- what is read beside the cells that are lent, so many that the caller's lists have as many places, or the most
  pub read_alike : {list costs befores : ℕ} (a b : ℕ) → list ≡ places → costs ≡ min a 65536 → befores ≡ min b 65536 → file_refusal f list costs befores bs ≡ file_refusal f places a b bs
  read_alike a b list costs befores = rw (list, costs, befores) (file_capped a b)

pub lent_cells : {X : Type 0} (xs : List X) (k a : ℕ) → length xs ≡ 65536 → k ≡ min a 65536 → length (take k xs) ≡ min a 65536
lent_cells xs k a long is = omega (arith, length-take k xs, long, is)

module _ (f : Format) (bs : List ℕ) where
  reads_on : (tests : Bool) (header rest : Option Code) → (header ≡ None → tests ≡ false) → option_or header (refused_if tests (bare 19) (option_or header rest)) ≡ option_or header rest
  reads_on tests None rest passes = rw (passes refl) refl
  reads_on tests (Some c) rest passes = refl

  -- beside the largest tables a file is refused as it is without any
  pub file_read : file_refusal f 4096 65536 65536 bs ≡ reading_refusal f 4096 bs
  file_read =
      reads_on _ (header_refusal f 4096 bs) _ (λ none. let few = cells_few f 4096 bs none in grind (arith, nat_tests, few))

  pub read_first : (c : Code) (rest : Option Code) → Some c ≡ file_refusal f 4096 65536 65536 bs → Some c ≡ option_or (reading_refusal f 4096 bs) rest
  read_first c rest some = rw (sym file_read ∙ sym some) refl

  pub read_refused : (c : Code) → Some c ≡ file_refusal f 4096 65536 65536 bs → reading_refusal f 4096 bs ≡ Some c
  read_refused c some = sym file_read ∙ sym some

  pub read_accepted : None ≡ file_refusal f 4096 65536 65536 bs → reading_refusal f 4096 bs ≡ None
  read_accepted none = sym file_read ∙ sym none
