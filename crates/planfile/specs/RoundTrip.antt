-- Both ways: what reading and writing are to each other.
--
--   Holds m f n links bs      the file bs holds the plan: it is its encoding, the plan is sound, no link costs zero or FAR, and writing
--                             the plan into any buffer that is long enough is not refused, so that it gives bs again
--   Accepts f places bs ok    ok, whether reading bs was accepted, is true wherever bs is the encoding of a sound plan and
--                             the list, of 1 to 4,096 places, has a place for each of its links
--   SameLinks m ls ls'        the same links in the same order: the same stations and the same costs
--   ReadsBack m formed f n links bs
--                             the file bs is accepted by any list, of 1 to 4,096 places, that has places for its links, and
--                             is read as the same number of stations and the same links
--   PlanFits n xs             the numbers fit the places that the format has for them
--   Unambiguous f             different plans have different encodings
use Rattle.std.specs.Prelude.{◌≡◌, ℕ, ◌^◌, ◌<◌, ◌≤◌, Bool, true, List, map, length, None, Option}
use Rattle.std.specs.List.{All, AllByRecursion}
use Rattle.cost.specs.Kind.{Kind, Below}
use Rattle.cost.specs.declared.link.Link.{Link}
use Rattle.filekind.specs.Format.{Format}
use Rattle.planfile.specs.Encoding.{encoding, file_of}
use Rattle.planfile.specs.Reading.{count_of, links_of, reading_refusal, stations_of}
use Rattle.planfile.specs.Records.{fields_of}
use Rattle.planfile.specs.Sound.{Sound}
use Rattle.planfile.specs.Writing.{writing_refusal}
use Rattle.planfile.specs.declared.fields.Fields.{Fields}

pub record Holds {K : Type 0} (m : Kind K) (f : Format) (n : ℕ) (links : List (Link K)) (bs : List ℕ) : Type 0 where
  pub encoded : file_of m f n links ≡ bs
  pub sound : Sound f n (map (fields_of m) links)
  pub none_free : All (λ l. Below m m.zero l.cost) links
  pub none_far : All (λ l. Below m l.cost m.far) links
  pub writable : (room : ℕ) → length bs ≤ room → writing_refusal m f n links room ≡ None

abbrev pub Accepts : Format → ℕ → List ℕ → Bool → Type 0
Accepts f places bs ok = (n : ℕ) (xs : List Fields) → Sound f n xs → 1 ≤ places → places ≤ 4096 → length xs ≤ places → encoding f n xs ≡ bs → ok ≡ true

abbrev pub SameLinks : {K : Type 0} → Kind K → List (Link K) → List (Link K) → Type 0
SameLinks m ls ls' = map (fields_of m) ls ≡ map (fields_of m) ls'

pub record ReadsBack {K : Type 0} (m : Kind K) (formed : ℕ → Option K) (f : Format) (n : ℕ) (links : List (Link K)) (bs : List ℕ) : Type 0 where
  pub accepted : (places : ℕ) → 1 ≤ places → places ≤ 4096 → length links ≤ places → reading_refusal f places bs ≡ None
  pub stations : stations_of bs ≡ n
  pub count : count_of bs ≡ length links
  pub same : SameLinks m (links_of m formed bs) links

pub record FieldsFit (x : Fields) : Type 0 where
  pub from : x.from < 2 ^ 16
  pub to : x.to < 2 ^ 16
  pub number : x.number < 2 ^ 64

pub record PlanFits (n : ℕ) (xs : List Fields) : Type 0 where
  pub stations : n < 2 ^ 16
  pub count : length xs < 2 ^ 16
  pub fields : AllByRecursion FieldsFit xs

abbrev pub Unambiguous : Format → Type 0
Unambiguous f = (n n' : ℕ) (xs xs' : List Fields) → PlanFits n xs → PlanFits n' xs' → encoding f n xs ≡ encoding f n' xs' → (n ≡ n') × (xs ≡ xs')
