-- What a plan file has of a cost kind: three fixed things.
--
--   Format                  the kind byte, the word, and the range of link costs, both ends included
--   Ranged m formed f r     r is the link range of the format: it leaves out zero and FAR, and each number in it
--                           forms a cost; and the kind byte is a byte
--   sum_format              byte 0, word sum, 1 to 1,000,000,000
--   split_format            byte 1, word split, 2 to 64
use Rattle.std.specs.Prelude.{◌≡◌, ℕ, ◌<◌, ◌≤◌, true, List, is_some, codes, Option}
use Rattle.cost.specs.Kind.{Kind, FAR}
use Rattle.filekind.specs.declared.range.LinkRange.{LinkRange}

pub record Format : Type 0 where
  pub byte : ℕ
  pub word : List ℕ
  pub low : ℕ
  pub high : ℕ

pub record Ranged {K : Type 0} (m : Kind K) (formed : ℕ → Option K) (f : Format) (r : LinkRange) : Type 0 where
  pub low : r.low ≡ f.low
  pub high : r.high ≡ f.high
  pub byte_fits : f.byte < 256
  pub zero_out : m.rank m.zero < f.low
  pub far_out : f.high < FAR
  pub forms : (v : ℕ) → f.low ≤ v → v ≤ f.high → is_some (formed v) ≡ true

abbrev pub sum_format : Format
sum_format = record { byte = 0; word = codes "sum"; low = 1; high = 1000000000 }

abbrev pub split_format : Format
split_format = record { byte = 1; word = codes "split"; low = 2; high = 64 }
