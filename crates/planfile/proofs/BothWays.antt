-- Reading and writing undo each other.
use Rattle.std.proofs.Common.{◌≡◌, ℕ, ◌+◌, ◌*◌, ◌<◌, ◌≤◌, List, [], ◌∷◌, ◌++◌, map, length, drop, None, Some, Option, MatchOption, ◌≢◌, sym, refl, ap, ◌∙◌, ap₂, arith, rules}
use Rattle.std.proofs.ByRecursion.{All-weaker}
use Rattle.std.proofs.lemmas.List.{length-map}
use Rattle.std.proofs.lemmas.List.Elements.{All-cons, All-nil}
use Rattle.std.proofs.lemmas.Bool.Decides.{nat_tests}
use Rattle.std.specs.List.{All, AllByRecursion}
use Rattle.std.specs.Option.{unwrap_or}
use Rattle.cost.specs.Forms.{Forms}
use Rattle.cost.specs.Kind.{Kind, FAR, Below}
use Rattle.cost.specs.Laws.{Laws}
use Rattle.cost.specs.declared.link.Link.{Link}
use Rattle.filekind.specs.Format.{Format, Ranged}
use Rattle.filekind.specs.declared.range.LinkRange.{LinkRange}
use Rattle.planfile.specs.Encoding.{encoding, file_of}
use Rattle.planfile.specs.Reading.{file_records, links_of, reading_refusal, stations_of, count_of}
use Rattle.planfile.specs.Records.{fields_of, link_of}
use Rattle.planfile.specs.RoundTrip.{FieldsFit, Holds, PlanFits, ReadsBack, Unambiguous}
use Rattle.planfile.specs.Sound.{Laid, Sound}
use Rattle.planfile.specs.Writing.{first_outside, writing_refusal}
use Rattle.planfile.specs.declared.fields.Fields.{Fields}
use Rattle.planfile.proofs.FileBytes.{count_read_back, encoding_passes, length-encoding, length-file, records_read_back, stations_read_back}
use Rattle.planfile.proofs.HeaderTests.{left_to_records}
use Rattle.planfile.proofs.RecordBytes.{length-records_of}
use Rattle.planfile.proofs.Soundness.{laid_from_none, none_from_laid, parts_from_none}
use Rattle.planfile.proofs.WritingTests.{left_to_costs}

-- what each record of a sound plan has by itself
pub record InRange (f : Format) (n : ℕ) (x : Fields) : Type 0 where
  pub low : f.low ≤ x.number
  pub high : x.number ≤ f.high
  pub from : x.from < n
  pub to : x.to < n

in_range : (f : Format) (n : ℕ) (earlier xs : List Fields) → Laid f n earlier xs → AllByRecursion (InRange f n) xs
in_range f n earlier [] laid = tt
in_range f n earlier (x ∷ xs) laid = (search rules, in_range f n (earlier ++ x ∷ []) xs laid.1)

-- the numbers of a sound plan fit their places
all_fit : (f : Format) (n : ℕ) (xs : List Fields) → f.high < FAR → Sound f n xs → AllByRecursion FieldsFit xs
all_fit f n xs far sound = All-weaker (InRange f n) FieldsFit (λ x link. search rules) xs (in_range f n [] xs sound.laid)

-- so a sound plan fits the format
pub plan_fits : (f : Format) (n : ℕ) (xs : List Fields) → f.high < FAR → Sound f n xs → PlanFits n xs
plan_fits f n xs far sound = record { stations = omega (arith, sound.few); count = omega (arith, sound.short); fields = all_fit f n xs far sound }

-- none of such records has a cost outside the link range
none_outside : (f : Format) (n k : ℕ) (xs : List Fields) → AllByRecursion (InRange f n) xs → first_outside f k xs ≡ None
none_outside f n k [] all = refl
none_outside f n k (x ∷ xs) all = grind (arith, nat_tests, all.0, none_outside f n (k + 1) xs all.1)

-- the encoding of a sound plan is accepted, and read as that plan
pub accepted : (f : Format) (n : ℕ) (xs : List Fields) (places : ℕ) → f.byte < 256 → f.high < FAR → Sound f n xs → 1 ≤ places → places ≤ 4096 → length xs ≤ places → reading_refusal f places (encoding f n xs) ≡ None
accepted f n xs places byte far sound some few enough =
    let passes = encoding_passes f n xs places byte some few sound.some sound.few enough in
    let stations = stations_read_back f n xs (omega arith) in
    let records = records_read_back f n xs (omega arith) (all_fit f n xs far sound) in
    let count = count_read_back f n xs (omega arith) in
    let long : length (encoding f n xs) ≡ 10 + 12 * count_of (encoding f n xs) = omega (arith, length-encoding f n xs, count) in
    rw (left_to_records f places (encoding f n xs) passes long, stations, records, none_from_laid f n [] xs sound.laid)

-- a sound plan is written into any buffer that is long enough
pub writable : {K : Type 0} (m : Kind K) (f : Format) (n : ℕ) (links : List (Link K)) (room : ℕ) → Sound f n (map (fields_of m) links) → length (file_of m f n links) ≤ room → writing_refusal m f n links room ≡ None
writable m f n links room sound enough =
    let xs = map (fields_of m) links in
    let count = length-map links (fields_of m) in
    sym (left_to_costs m f n links room sound.some sound.few (omega (arith, sound.short, count)) (omega (arith, length-file m f n links, enough))) ∙ none_outside f n 0 xs (in_range f n [] xs sound.laid)

module _ {K : Type 0} (m : Kind K) (formed : ℕ → Option K) (numbered : Forms m formed) where
  -- a link read from fields has those fields
  fields_again : (f : Format) (r : LinkRange) (n : ℕ) → Ranged m formed f r → (xs : List Fields) → AllByRecursion (InRange f n) xs → map (fields_of m) (map (link_of m formed) xs) ≡ xs
  fields_again f r n ranged [] all = refl
  fields_again f r n ranged (x ∷ xs) all = ap₂ ◌∷◌ (grind (arith, all.0, ranged.forms x.number, numbered x.number)) (fields_again f r n ranged xs all.1)

  -- a cost is formed from its number
  formed_again : (a : K) (o : Option K) → MatchOption o ((c : K) → m.rank c ≢ m.rank a) (λ c. m.rank c ≡ m.rank a) → m.rank (unwrap_or o m.far) ≡ m.rank a
  formed_again a None none = absurd (none a refl)
  formed_again a (Some c) same = same

  -- so the fields of a link stand for a link that has them
  pub link_again : Laws m → (l : Link K) → fields_of m (link_of m formed (fields_of m l)) ≡ fields_of m l
  link_again laws l = rw (formed_again l.cost (formed (m.rank l.cost)) (numbered (m.rank l.cost) (laws.rank_fits l.cost))) refl

  -- what holds of a link whose number is in range holds of all links of a file
  of_range : (P : Link K → Type 0) (f : Format) (n : ℕ) → ((l : Link K) → InRange f n (fields_of m l) → P l) → (links : List (Link K))
      → AllByRecursion (InRange f n) (map (fields_of m) links) → All P links
  of_range P f n each [] all = All-nil P
  of_range P f n each (l ∷ links) all = All-cons P l links (each l all.0) (of_range P f n each links all.1)

  -- an accepted file holds the links that are read from it
  pub file_holds : Laws m → (f : Format) (r : LinkRange) → Ranged m formed f r → (places : ℕ) (bs : List ℕ) → reading_refusal f places bs ≡ None → encoding f (stations_of bs) (file_records bs) ≡ bs → Holds m f (stations_of bs) (links_of m formed bs) bs
  file_holds laws f r ranged places bs none whole =
      let n = stations_of bs in
      let xs = file_records bs in
      let links = links_of m formed bs in
      let parts = parts_from_none f places bs none in
      let passes = parts.0 in
      let laid = laid_from_none f n [] xs parts.2 in
      let all = in_range f n [] xs laid in
      let again = fields_again f r n ranged xs all in
      let counted = length-records_of (count_of bs) (drop 10 bs) in
      let count = length-map xs (link_of m formed) in
      let encoded : file_of m f n links ≡ bs = rw again whole in
      let sound : Sound f n (map (fields_of m) links) = rw again (record { some = passes.some_stations; few = passes.few_stations; short = omega arith; laid = laid }) in
      record {
        encoded = encoded;
        sound = sound;
        none_free = of_range (λ l. Below m m.zero l.cost) f n (λ l within. omega (arith, within.low, ranged.zero_out)) links (rw again all);
        none_far = of_range (λ l. Below m l.cost m.far) f n (λ l within. omega (arith, within.high, ranged.far_out, laws.far_rank)) links (rw again all);
        writable = λ room enough. writable m f n links room sound (omega (arith, ap length encoded, enough));
      }

  -- the encoding of a sound plan reads back
  pub reads_back : (f : Format) (r : LinkRange) → Ranged m formed f r → (n : ℕ) (links : List (Link K)) → Sound f n (map (fields_of m) links) → ReadsBack m formed f n links (file_of m f n links)
  reads_back f r ranged n links sound =
      let xs = map (fields_of m) links in
      let count = length-map links (fields_of m) in
      record {
        accepted = λ places some up enough. accepted f n xs places ranged.byte_fits ranged.far_out sound some up (omega arith);
        stations = stations_read_back f n xs (omega arith);
        count = count_read_back f n xs (omega arith) ∙ count;
        same = rw (records_read_back f n xs (omega arith) (all_fit f n xs ranged.far_out sound)) (fields_again f r n ranged xs (in_range f n [] xs sound.laid));
      }

-- a plan that fits the format can be told from its encoding
pub unambiguous : (f : Format) → Unambiguous f
unambiguous f n n' xs xs' fit fit' same = (
  cc (stations_read_back f n xs fit.stations, stations_read_back f n' xs' fit'.stations),
  cc (records_read_back f n xs fit.count fit.fields, records_read_back f n' xs' fit'.count fit'.fields),
)
