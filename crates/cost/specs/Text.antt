-- Links as text.
--
--   link_text m l    from, to and the cost's number, divided by one blank
use Rattle.std.specs.Prelude.{ℕ, List, ◌++◌, codes, decimal}
use Rattle.cost.specs.Kind.{Kind}
use Rattle.cost.specs.declared.link.Link.{Link}

abbrev pub link_text : {K : Type 0} → Kind K → Link K → List ℕ
link_text m l = decimal l.from ++ (codes " " ++ (decimal l.to ++ (codes " " ++ decimal (m.rank l.cost))))
