-- Unsigned numbers as bytes, the high byte first.
--
--   bytes w v           the number v in w bytes
--   number_at w bs i    the number that the w bytes of bs from place i on stand for
use Rattle.std.specs.Prelude.{ℕ, zero, suc, ◌+◌, ◌*◌, ◌/◌, ◌%◌, ◌^◌, List, [], ◌∷◌, slice_index}

abbrev pub bytes : ℕ → ℕ → List ℕ
bytes zero v = []
bytes (suc w) v = v / 256 ^ w % 256 ∷ bytes w v

abbrev pub number_at : ℕ → List ℕ → ℕ → ℕ
number_at zero bs i = 0
number_at (suc w) bs i = slice_index bs i * 256 ^ w + number_at w bs (i + 1)
