-- The lines of an account: fields divided by one blank, each line ended by byte 10.
--
--   head_line f n       the kind's word, then the two counts
--   link_line m l       a link
--   refused_line c      the word refused, then the refusal
use Rattle.std.specs.Prelude.{ℕ, List, ◌++◌, codes}
use Rattle.cost.specs.Kind.{Kind}
use Rattle.cost.specs.Text.{link_text}
use Rattle.cost.specs.declared.link.Link.{Link}
use Rattle.filekind.specs.Format.{Format}
use Rattle.planfile.specs.Text.{counts_text}
use Rattle.planfile.specs.declared.counts.Counts.{Counts}
use Rattle.refusal.specs.Text.{code_text}
use Rattle.refusal.specs.declared.Code.{Code}

abbrev pub head_line : Format → Counts → List ℕ
head_line f counts = f.word ++ (codes " " ++ (counts_text counts ++ codes "\n"))

abbrev pub link_line : {K : Type 0} → Kind K → Link K → List ℕ
link_line m l = link_text m l ++ codes "\n"

abbrev pub refused_line : Code → List ℕ
refused_line c = codes "refused " ++ (code_text c ++ codes "\n")
