-- A file longer than any plan is refused by its header or its length: the bytes past the longest plan change nothing.
use Rattle.std.proofs.Common.{◌≡◌, ℕ, ◌+◌, ◌*◌, ◌<◌, ◌≤◌, Bool, false, cond, not, ◌||◌, eqb, ltb, List, length, get_or, take, None, Option, ap, ◌∙◌, ⊎_elim, arith, lit<}
use Rattle.std.proofs.lemmas.Bool.Decides.{nat_tests}
use Rattle.std.proofs.lemmas.List.{get_or-take, length-take-le, take_all}
use Rattle.std.proofs.lemmas.Bool.{cases_lt, le-ltb}
use Rattle.std.specs.Option.{option_or}
use Rattle.filekind.specs.Format.{Format, split_format, sum_format}
use Rattle.filekind.specs.Named.{kind_of}
use Rattle.filekind.specs.Outside.{outside}
use Rattle.filekind.specs.declared.named.Kind.{Kind}
use Rattle.filekind.specs.declared.named.Kind.TheVariants.{Split, Sum}
use Rattle.planfile.specs.Reading.{count_of, reading_refusal, stations_of}
use Rattle.refusal.specs.Code.{bare}
use Rattle.refusal.specs.First.{refused_if}
use Rattle.refusal.specs.declared.Code.{Code}
use Rattle.account.specs.Account.{account_as, account_of, most_places, refused_or}
use Rattle.account.specs.Enough.{Enough, most_bytes}

-- the refusal of a file with ten bytes or more, where the tests of its header fail or not, and its length fits or not
abbrev refusal_by : Bool → Bool → Bool → Bool → Bool → Option Code → Option Code
refusal_by mark version kind counts fits rest =
    option_or
    (refused_if mark (bare 16)
    (refused_if version (bare 17)
    (refused_if kind (bare 18)
    (refused_if counts (bare 19) None))))
    (refused_if (not fits) (bare 20) rest)

-- where the length fits no counts, what follows that test changes nothing
one_line : (mark version kind counts fits fits' : Bool) (rest rest' : Option Code) (text text' : List ℕ) → (counts ≡ false → fits ≡ false) → (counts ≡ false → fits' ≡ false) → refused_or (refusal_by mark version kind counts fits rest) text ≡ refused_or (refusal_by mark version kind counts fits' rest') text'
one_line mark version kind counts fits fits' rest rest' text text' long long' = grind arith

module _ (bs : List ℕ) (long : most_bytes ≤ length bs) where
  abbrev cut : List ℕ
  cut = take most_bytes bs

  kept : (i : ℕ) → i < most_bytes → get_or cut i 0 ≡ get_or bs i 0
  kept i early = get_or-take most_bytes bs i 0 early

  fits_none : (n : ℕ) → most_bytes ≤ n → (outside 1 256 (stations_of bs) || ltb most_places (count_of bs)) ≡ false → eqb n (10 + 12 * count_of bs) ≡ false
  fits_none n over counts = grind (arith, nat_tests)

  refused_alike : (f : Format) (text other : List ℕ) → refused_or (reading_refusal f most_places cut) text ≡ refused_or (reading_refusal f most_places bs) other
  refused_alike f text other =
      let same : length cut ≡ most_bytes = length-take-le most_bytes bs long in
      let none = fits_none most_bytes (omega arith) in
      let none' = fits_none (length bs) long in
      rw (same, le-ltb (length bs) 10 (omega (arith, long)), kept 0 (lit< tt), kept 1 (lit< tt), kept 2 (lit< tt), kept 3 (lit< tt), kept 4 (lit< tt), kept 5 (lit< tt), kept 6 (lit< tt), kept 7 (lit< tt), kept 8 (lit< tt), kept 9 (lit< tt))
      (search (one_line, none, none'))

  alike : (k : Kind) → account_as k cut ≡ account_as k bs
  alike Sum = refused_alike sum_format _ _
  alike Split = refused_alike split_format _ _

  same_account : account_of cut ≡ account_of bs
  same_account = ap (λ byte. account_as (cond (eqb byte 1) Split Sum) cut) (kept 5 (lit< tt)) ∙ alike (kind_of bs)

pub most_bytes_enough : Enough most_bytes
most_bytes_enough bs = ⊎_elim (λ (short : length bs < most_bytes). ap account_of (take_all most_bytes bs (omega (arith, short)))) (same_account bs) (cases_lt (length bs) most_bytes)
