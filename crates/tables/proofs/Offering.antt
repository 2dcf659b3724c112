-- What a station offers over links, where its offers do not go along its row. Plain and reuse follow all of them, and so does prune from the source;
-- from another station it follows those that its first station's row lets pass.
use Rattle.std.specs.Prelude.{◌≡◌, ℕ, ◌==◌, ◌≢◌, true, false, Option, None, ◌⊎◌}
use Rattle.std.proofs.Common.{refl, arith, ⊎_elim}
use Rattle.std.proofs.lemmas.Bool.Decides.{nat_tests}
use Rattle.std.proofs.Common.{ne_eqb}
use Rattle.cost.specs.Kind.{Kind}
use Rattle.routes.specs.Row.{Row}
use Rattle.routes.specs.Task.{Task}
use Rattle.routes.specs.State.{State}
use Rattle.routes.specs.Methods.{by_method, guided, guiding, offers}
use Rattle.routes.specs.declared.method.Method.{Method}
use Rattle.routes.specs.declared.method.Method.TheVariants.{Plain, Reuse, Prune}
use Rattle.ledger.specs.View.{View, task_of}
use Rattle.tables.specs.Following.{along_by, by_links, first_by, links_by, over}
use Rattle.tables.specs.declared.following.Trail.TheVariants.{Begins, Goes, Unkept}

pub plain_goes : {K : Type 0} (m : Kind K) (task : Task K) (s : State K) (t : ℕ) → (task.method ≡ Plain) ⊎ (task.method ≡ Reuse) → (label : K) → label ≡ s.row.costs t → over m label t (first_by Unkept) (guided m None) task.network.links ≡ by_links m task s t
plain_goes m task s t is label same = ⊎_elim (λ (e : task.method ≡ Plain). rw (e, same) refl) (λ (e : task.method ≡ Reuse). rw (e, same) refl) is

module _ {K : Type 0} (m : Kind K) (task : Task K) (s : State K) (t : ℕ) (is : task.method ≡ Prune) where
  pub prune_begins : (label : K) → label ≡ s.row.costs t → t ≡ task.source → over m label t (first_by Begins) (guided m None) task.network.links ≡ by_links m task s t
  prune_begins label same at_source = let test : (t == task.source) ≡ true = grind (arith, nat_tests) in rw (is, same, test) refl

  pub prune_goes : (label : K) (first : Option ℕ) (r : Option (Row K)) → label ≡ s.row.costs t → (t ≢ task.source) → first ≡ s.firsts t → r ≡ guiding task.rows first → over m label t (first_by (Goes first)) (guided m r) task.network.links ≡ by_links m task s t
  prune_goes label first r same elsewhere along guide = rw (is, guide, along, same, ne_eqb t task.source elsewhere) refl

module _ {K : Type 0} (m : Kind K) (v : View K) (a : ℕ) (s : State K) (t : ℕ) where
  offers_by : (method by : Method) → along_by (v.ledger.marked t) by ≡ false → links_by m (task_of v a method) s t by ≡ by_method m (task_of v a method) s t by
  offers_by method Plain links = refl
  offers_by method Reuse links = rw links refl
  offers_by method Prune links = refl

  pub offers_over_links : (method : Method) → along_by (v.ledger.marked t) method ≡ false → by_links m (task_of v a method) s t ≡ offers m (task_of v a method) s t
  offers_over_links method links = offers_by method method links
