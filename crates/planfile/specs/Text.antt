-- Counts as text.
--
--   counts_text c    the number of stations and the number of links, divided by one blank
use Rattle.std.specs.Prelude.{ℕ, List, ◌++◌, codes, decimal}
use Rattle.planfile.specs.declared.counts.Counts.{Counts}

abbrev pub counts_text : Counts → List ℕ
counts_text c = decimal c.stations ++ (codes " " ++ decimal c.links)
