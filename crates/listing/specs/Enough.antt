-- How much of an input decides its report.
--
--   longest_plan   the length of the longest plan file that is reported
--   most_bytes     one byte more
--   Enough k       an input that is cut off after k bytes has the same report
use Rattle.std.specs.Prelude.{◌↔◌, ℕ, ◌+◌, ◌*◌, List, take}
use Rattle.listing.specs.Report.{Report, most_links}

abbrev pub longest_plan : ℕ
longest_plan = 10 + 12 * most_links

abbrev pub most_bytes : ℕ
most_bytes = longest_plan + 1

abbrev pub Enough : ℕ → Type 0
Enough k = (bs text : List ℕ) → Report (take k bs) text ↔ Report bs text
