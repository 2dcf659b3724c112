-- The links that a file puts at the start of a list: as many as it counts, and found there again.
use Rattle.std.proofs.Common.{◌≡◌, ℕ, List, ◌++◌, length, take, drop, Option, ◌∙◌}
use Rattle.std.proofs.lemmas.List.{length-map, take_at}
use Rattle.cost.specs.Kind.{Kind}
use Rattle.cost.specs.declared.link.Link.{Link}
use Rattle.planfile.specs.Fronted.{fronted}
use Rattle.planfile.specs.Reading.{count_of, file_records, links_of}
use Rattle.planfile.specs.Records.{link_of}
use Rattle.planfile.proofs.RecordBytes.{length-records_of}

module _ {K : Type 0} (m : Kind K) (formed : ℕ → Option K) (bs : List ℕ) where
  -- as many of a list that begins with them are the links
  pub links_first : (rest : List (Link K)) → take (count_of bs) (links_of m formed bs ++ rest) ≡ links_of m formed bs
  links_first rest = take_at (links_of m formed bs) rest (count_of bs) (length-map (file_records bs) (link_of m formed) ∙ length-records_of (count_of bs) (drop 10 bs))

  -- and so of a list that they were written into
  pub links_in_front : (list : List (Link K)) → take (count_of bs) (fronted (links_of m formed bs) list) ≡ links_of m formed bs
  links_in_front list = links_first (drop (length (links_of m formed bs)) list)
