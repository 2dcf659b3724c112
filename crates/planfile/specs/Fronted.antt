-- What a list holds after something was put at its start.
--
--   fronted new old     new at the start, and after it the places of old as they were
use Rattle.std.specs.Prelude.{List, ◌++◌, length, drop}

abbrev pub fronted : {A : Type 0} → List A → List A → List A
fronted new old = new ++ drop (length new) old
