-- The delivered file kinds by name.
--
--   byte_of kind     the kind byte
--   Names byte r     r is the kind with that kind byte, or tells a byte that no kind has
--   kind_of bs       the kind that the kind byte of a file names; sum where it names none or is missing
use Rattle.std.specs.Prelude.{◌≡◌, ℕ, cond, List, Result, MatchResult, ◌==◌, ◌≢◌, slice_index}
use Rattle.filekind.specs.Format.{sum_format, split_format}
use Rattle.filekind.specs.declared.named.Kind.{Kind}
use Rattle.filekind.specs.declared.named.Kind.TheVariants.{Sum, Split}
use Rattle.filekind.specs.declared.named.UnknownKind.{UnknownKind}

abbrev pub byte_of : Kind → ℕ
byte_of Sum = sum_format.byte
byte_of Split = split_format.byte

abbrev pub Names : ℕ → Result Kind UnknownKind → Type 0
Names byte r = MatchResult r (λ kind. byte_of kind ≡ byte) (λ e. (e.0 ≡ byte) × (byte_of Sum ≢ byte) × (byte_of Split ≢ byte))

abbrev pub kind_of : List ℕ → Kind
kind_of bs = cond (slice_index bs 5 == split_format.byte) Split Sum
