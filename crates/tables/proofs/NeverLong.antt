-- What is written of a plan is never refused for too long a list.
use Rattle.std.specs.Prelude.{◌≢◌, ℕ, ◌≤◌, List, Some, length}
use Rattle.std.proofs.Common.{rules}
use Rattle.cost.specs.Kind.{Kind}
use Rattle.cost.specs.declared.link.Link.{Link}
use Rattle.filekind.specs.Format.{Format}
use Rattle.planfile.specs.Writing.{writing_refusal}
use Rattle.refusal.specs.Code.{bare}

pub never_long : {K : Type 0} (m : Kind K) (f : Format) (n : ℕ) (links : List (Link K)) (room : ℕ) → length links ≤ 4096 → writing_refusal m f n links room ≢ Some (bare 2)
never_long m f n links room short = search rules
