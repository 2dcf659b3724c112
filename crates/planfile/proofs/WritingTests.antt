-- The tests of writing that pass leave the verdict to the costs.
use Rattle.std.proofs.Common.{◌≡◌, ℕ, ◌+◌, ◌*◌, ◌≤◌, List, map, length, arith}
use Rattle.std.proofs.lemmas.Bool.Decides.{nat_tests}
use Rattle.cost.specs.Kind.{Kind}
use Rattle.cost.specs.declared.link.Link.{Link}
use Rattle.filekind.specs.Format.{Format}
use Rattle.planfile.specs.Records.{fields_of}
use Rattle.planfile.specs.Writing.{first_outside, writing_refusal}

pub left_to_costs : {K : Type 0} (m : Kind K) (f : Format) (n : ℕ) (links : List (Link K)) (room : ℕ) → 1 ≤ n → n ≤ 256 → length links ≤ 4096 → 10 + 12 * length links ≤ room → first_outside f 0 (map (fields_of m) links) ≡ writing_refusal m f n links room
left_to_costs m f n links room some few enough fits = grind (arith, nat_tests)
