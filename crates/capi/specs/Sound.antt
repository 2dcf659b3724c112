-- Whether a plan file is sound.
--
--   most_links                       the places of the list that a file is read into, 4,096
--   SoundAnswer bs facts facts' r    the file is refused, or accepted with its kind byte, stations and links
use Rattle.std.specs.Prelude.{ℕ, List, [], ◌∷◌}
use Rattle.filekind.specs.Format.{Format, split_format, sum_format}
use Rattle.filekind.specs.Named.{kind_of}
use Rattle.filekind.specs.declared.named.Kind.{Kind}
use Rattle.filekind.specs.declared.named.Kind.TheVariants as kind
use Rattle.planfile.specs.Reading.{count_of, reading_refusal, stations_of}
use Rattle.capi.specs.Facts.{Accepts, Answered}

abbrev pub most_links : ℕ
most_links = 4096

abbrev pub SoundIn : Format → List ℕ → List ℕ → List ℕ → ℕ → Type 0
SoundIn f bs facts facts' r =
    Answered (reading_refusal f most_links bs) Unit facts facts' r (Accepts (f.byte ∷ stations_of bs ∷ count_of bs ∷ []) facts facts' r)

abbrev pub SoundAs : Kind → List ℕ → List ℕ → List ℕ → ℕ → Type 0
SoundAs kind.Sum bs facts facts' r = SoundIn sum_format bs facts facts' r
SoundAs kind.Split bs facts facts' r = SoundIn split_format bs facts facts' r

abbrev pub SoundAnswer : List ℕ → List ℕ → List ℕ → ℕ → Type 0
SoundAnswer bs facts facts' r = SoundAs (kind_of bs) bs facts facts' r
