-- A file longer than any plan that is reported is refused by its header or its length: the bytes past the longest plan change nothing.
use Rattle.std.proofs.Common.{◌≡◌, ◌↔◌, ℕ, ◌+◌, ◌*◌, ◌<◌, ◌≤◌, Bool, true, false, cond, not, ◌||◌, eqb, ltb, is_some, List, length, get_or, take, None, Some, Option, sym, ap, subst, ◌∙◌, ⊎_elim, arith, lit<}
use Rattle.std.proofs.lemmas.Bool.Decides.{nat_tests}
use Rattle.std.proofs.lemmas.List.{get_or-take, length-take-le, take_all}
use Rattle.std.proofs.lemmas.Bool.{cases_lt, le-ltb}
use Rattle.std.specs.Option.{option_or}
use Rattle.filekind.specs.Format.{Format, split_format, sum_format}
use Rattle.filekind.specs.Named.{kind_of}
use Rattle.filekind.specs.Outside.{outside}
use Rattle.filekind.specs.declared.named.Kind.{Kind}
use Rattle.filekind.specs.declared.named.Kind.TheVariants.{Split, Sum}
use Rattle.planfile.specs.Reading.{count_of, stations_of}
use Rattle.refusal.specs.Code.{bare}
use Rattle.refusal.specs.First.{refused_if}
use Rattle.refusal.specs.declared.Code.{Code}
use Rattle.tables.specs.Read.{file_refusal}
use Rattle.listing.specs.Report.{Report, ReportAs, or_refused, most_cells, most_links}
use Rattle.listing.specs.Enough.{Enough, most_bytes}

-- a header's refusal, where it has ten bytes or more, and the tests of it fail or not
abbrev header_by : Bool → Bool → Bool → Bool → Option Code
header_by mark version kind counts =
    refused_if mark (bare 16)
    (refused_if version (bare 17)
    (refused_if kind (bare 18)
    (refused_if counts (bare 19) None)))

-- a file's refusal then, where there are too many cells or not, and its length fits or not
abbrev file_by : Bool → Bool → Bool → Bool → Bool → Bool → Option Code → Option Code
file_by mark version kind counts cells fits rest =
    option_or (header_by mark version kind counts)
    (refused_if cells (bare 19) (option_or (header_by mark version kind counts) (refused_if (not fits) (bare 20) rest)))

-- where the length fits no counts, what follows that test changes nothing
alike_by : (mark version kind counts cells fits fits' : Bool) (rest rest' : Option Code) → (counts ≡ false → fits ≡ false) → (counts ≡ false → fits' ≡ false)
    → file_by mark version kind counts cells fits rest ≡ file_by mark version kind counts cells fits' rest'
alike_by mark version kind counts cells fits fits' rest rest' long long' = grind arith

refused_by : (mark version kind counts cells fits : Bool) (rest : Option Code) → (counts ≡ false → fits ≡ false) → is_some (file_by mark version kind counts cells fits rest) ≡ true
refused_by mark version kind counts cells fits rest long = grind arith

same_line : (r r' : Option Code) (text : List ℕ) (P P' : Type 0) → r ≡ r' → is_some r ≡ true → or_refused r text P → or_refused r' text P'
same_line None r' text P P' same some told = absurd (cc some)
same_line (Some c) None text P P' same some told = absurd (cc same)
same_line (Some c) (Some c') text P P' same some told = let e : c ≡ c' = cc same in rw (← e) told

module _ (bs : List ℕ) (long : most_bytes ≤ length bs) where
  abbrev cut : List ℕ
  cut = take most_bytes bs

  abbrev refusal : Format → List ℕ → Option Code
  refusal f xs = file_refusal f most_links most_cells most_cells xs

  kept : (i : ℕ) → i < most_bytes → get_or cut i 0 ≡ get_or bs i 0
  kept i early = get_or-take most_bytes bs i 0 early

  fits_none : (n : ℕ) → most_bytes ≤ n → (outside 1 256 (stations_of bs) || ltb most_links (count_of bs)) ≡ false → eqb n (10 + 12 * count_of bs) ≡ false
  fits_none n over counts = grind (arith, nat_tests)

  refused_alike : (f : Format) → refusal f cut ≡ refusal f bs
  refused_alike f =
      let same : length cut ≡ most_bytes = length-take-le most_bytes bs long in
      let none = fits_none most_bytes (omega arith) in
      let none' = fits_none (length bs) long in
      rw (same, le-ltb (length bs) 10 (omega (arith, long)), kept 0 (lit< tt), kept 1 (lit< tt), kept 2 (lit< tt), kept 3 (lit< tt), kept 4 (lit< tt), kept 5 (lit< tt), kept 6 (lit< tt), kept 7 (lit< tt), kept 8 (lit< tt), kept 9 (lit< tt))
      (search (alike_by, none, none'))

  refused : (f : Format) → is_some (refusal f bs) ≡ true
  refused f =
      let none' = fits_none (length bs) long in
      rw (le-ltb (length bs) 10 (omega (arith, long))) (search (refused_by, none'))

  both : (f : Format) (P P' : Type 0) (text : List ℕ) → or_refused (refusal f cut) text P ↔ or_refused (refusal f bs) text P'
  both f P P' text = (
    same_line _ _ text P P' (refused_alike f) (ap is_some (refused_alike f) ∙ refused f),
    same_line _ _ text P' P (sym (refused_alike f)) (refused f),
  )

  alike : (k : Kind) (text : List ℕ) → ReportAs k cut text ↔ ReportAs k bs text
  alike Sum text = both sum_format _ _ text
  alike Split text = both split_format _ _ text

  same_report : (text : List ℕ) → Report cut text ↔ Report bs text
  same_report text =
      let same : kind_of cut ≡ kind_of bs = ap (λ byte. cond (eqb byte 1) Split Sum) (kept 5 (lit< tt)) in
      subst (λ (k : Kind). ReportAs k cut text ↔ Report bs text) (sym same) (alike (kind_of bs) text)

pub most_bytes_enough : Enough most_bytes
most_bytes_enough bs text =
    ⊎_elim
    (λ (short : length bs < most_bytes).
    subst (λ (xs : List ℕ). Report xs text ↔ Report bs text) (sym (take_all most_bytes bs (omega (arith, short)))) (λ r. r, λ r. r))
    (λ long. same_report bs long text)
    (cases_lt (length bs) most_bytes)
