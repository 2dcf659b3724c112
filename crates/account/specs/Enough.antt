-- How much of an input decides its account.
--
--   longest_plan   the length of the longest plan file
--   most_bytes     one byte more
--   Enough k       an input that is cut off after k bytes has the same account
use Rattle.std.specs.Prelude.{◌≡◌, ℕ, ◌+◌, ◌*◌, List, take}
use Rattle.account.specs.Account.{account_of, most_places}

abbrev pub longest_plan : ℕ
longest_plan = 10 + 12 * most_places

abbrev pub most_bytes : ℕ
most_bytes = longest_plan + 1

abbrev pub Enough : ℕ → Type 0
Enough k = (bs : List ℕ) → account_of (take k bs) ≡ account_of bs
