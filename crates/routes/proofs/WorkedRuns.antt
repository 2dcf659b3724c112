-- The six stations are what the theorems speak of: their links are sound, the worked rows right, and the steps those of whole runs.
use Rattle.std.proofs.Common.{Option, is_some, is_none, nat_le, None, append_assoc, ◌≡◌, ◌≢◌, ℕ, ◌<◌, Bool, true, not, ◌&&◌, ◌||◌, ◌==◌, ⊎_elim, List, [], ◌∷◌, ◌++◌, Some, refl, ap, subst, sym, arith}
use Rattle.std.specs.List.{fold, list_all, range_with_len}
use Rattle.std.proofs.lemmas.Bool.{cases_eq, leb-true, and_parts, ne_eqb}
use Rattle.std.proofs.lemmas.Bool.Decides.{nat_tests}
use Rattle.std.proofs.lemmas.List.{append-nil}
use Rattle.cost.specs.Sum.{sum_kind}
use Rattle.cost.specs.declared.link.Link.{Link}
use Rattle.cost.specs.declared.sum.Sum.{Sum}
use Rattle.queue.specs.Drained.{times}
use Rattle.queue.specs.Meaning.{Lowest}
use Rattle.routes.specs.Network.{Network, Between, OnePerPair, NoneFree}
use Rattle.routes.specs.Row.{Row, Right}
use Rattle.routes.specs.Walk.{stay}
use Rattle.routes.specs.Task.{Task, Workable, RowsRight}
use Rattle.routes.specs.State.{State}
use Rattle.routes.specs.Runs.{followed, Reached, Run, start, next}
use Rattle.routes.specs.Taken.{no_later, of_lowest, all_lowest}
use Rattle.routes.specs.Six.{six, row_of_zero, row_of_two, two_worked, both_worked, five_wrong, odd, lone, to_work, after}
use Rattle.routes.specs.declared.method.Method.{Method}
use Rattle.routes.specs.declared.method.Method.TheVariants.{Plain, Reuse, Prune}
use Rattle.routes.proofs.Costs.{zero_least_from_strict}
use Rattle.routes.proofs.Members.{in_range}
use Rattle.routes.proofs.Takings.{reached_standing}
use Rattle.routes.proofs.ByHand.{each_passes, sum_laws, sum_strict, between_of, none_free_of, right_by_hand}

-- a link is told by where it begins and ends
abbrev same_link : Link Sum → Link Sum → Bool
same_link k l = not (k.from == l.from && k.to == l.to) || k.cost.picoseconds == l.cost.picoseconds

one_per_pair_of : (net : Network Sum) → list_all (λ k. list_all (same_link k) net.links) net.links ≡ true → OnePerPair net
one_per_pair_of net all k l laid_k laid_l from to =
    let test = each_passes (same_link k) net.links (each_passes (λ k. list_all (same_link k) net.links) net.links all k laid_k) l laid_l in
    let cost : k.cost.picoseconds ≡ l.cost.picoseconds = grind (arith, nat_tests) in
    λ i. record { from = from i; to = to i; cost = record { picoseconds = cost i } }

six_between : Between six
six_between = between_of six refl

six_none_free : NoneFree sum_kind six
six_none_free = none_free_of six sum_kind refl

pub lone_sound : Between lone × OnePerPair lone × NoneFree sum_kind lone
lone_sound = (between_of lone refl, one_per_pair_of lone refl, none_free_of lone sum_kind refl)

pub links_sound : Between six × OnePerPair six × NoneFree sum_kind six
links_sound = (six_between, one_per_pair_of six refl, six_none_free)

pub rows_right : Right sum_kind six 0 row_of_zero × Right sum_kind six 2 row_of_two
rows_right =
    (right_by_hand sum_laws sum_strict six_between six_none_free (omega arith) refl, right_by_hand sum_laws sum_strict six_between six_none_free (omega arith) refl)

-- a worked row is one of these
read_right : (rows : ℕ → Option (Row Sum)) (t A : ℕ) (row found : Row Sum) → t ≡ A → rows A ≡ Some found → Right sum_kind six A found → rows t ≡ Some row → Right sum_kind six t row
read_right rows t A row found same at right is =
    let one : found ≡ row = cc (at, is, ap rows same) in
    subst (λ (u : ℕ). Right sum_kind six u row) (sym same) (subst (λ (r : Row Sum). Right sum_kind six A r) one right)

two_read : (t : ℕ) (row : Row Sum) → two_worked t ≡ Some row → Right sum_kind six t row
two_read t row is =
    ⊎_elim
    (λ (two : t ≡ 2). read_right two_worked t 2 row row_of_two two refl rows_right.1 is)
    (λ (other : t ≢ 2). absurd (grind (arith, nat_tests)))
    (cases_eq t 2)

both_read : (t : ℕ) (row : Row Sum) → both_worked t ≡ Some row → Right sum_kind six t row
both_read t row is =
    ⊎_elim
    (λ (first : t ≡ 0). read_right both_worked t 0 row row_of_zero first refl rows_right.0 is)
    (λ (other : t ≢ 0). two_read t row (rw (ne_eqb t 0 other) at is))
    (cases_eq t 0)

pub two_sound : (method : Method) (xs : List ℕ) → RowsRight sum_kind (to_work method two_worked) xs
two_sound method xs = record { right = λ t row on_it. two_read t row }

pub both_sound : (method : Method) (xs : List ℕ) → RowsRight sum_kind (to_work method both_worked) xs
both_sound method xs = record { right = λ t row on_it. both_read t row }

-- row 5 is wrong, but its station is not among these
pub five_sound : (method : Method) → RowsRight sum_kind (to_work method five_wrong) (0 ∷ 2 ∷ 1 ∷ 3 ∷ 4 ∷ [])
five_sound method = record {
  right = λ t row on_it is. ⊎_elim
      (λ (five : t ≡ 5). let none = ap (λ (u : ℕ). times u (0 ∷ 2 ∷ 1 ∷ 3 ∷ 4 ∷ [])) five in absurd (omega arith))
      (λ (other : t ≢ 5). both_read t row (rw (ne_eqb t 5 other) at is))
      (cases_eq t 5);
}

pub five_not_right : Right sum_kind six 5 row_of_zero → ⊥
five_not_right right = let zero = (right.least 5 (omega arith)).none_less stay in omega arith

pub source_sound : (method : Method) (rows : ℕ → Option (Row Sum)) → Workable (to_work method rows)
source_sound method rows = record { source_there = omega arith; between = six_between }

pub odd_sound : (method : Method) (rows : ℕ → Option (Row Sum)) → Workable (record { network = odd; rows = rows; source = 1; method = method })
odd_sound method rows = record { source_there = omega arith; between = between_of odd refl }

module _ (method : Method) (rows : ℕ → Option (Row Sum)) where
  abbrev task : Task Sum
  task = to_work method rows

  -- only the six wait
  six_wait : {xs : List ℕ} {s : State Sum} → Reached sum_kind task xs s → (v : ℕ) → is_some (s.queue.ranks v) ≡ true → v < 6
  six_wait reached v waits = ((reached_standing sum_laws (zero_least_from_strict sum_laws sum_strict) (source_sound method rows) reached).1.waiting v waits).0

  lowest_of : {xs : List ℕ} {s : State Sum} → Reached sum_kind task xs s → (t : ℕ) (q : Option ℕ) → s.queue.ranks t ≡ q
      → (is_some q && list_all (λ v. no_later q (s.queue.ranks v)) (range_with_len 0 6)) ≡ true → Lowest s.queue t
  lowest_of reached t None at may = absurd (cc may)
  lowest_of {s = s} reached t (Some x) at may = record {
    rank = x;
    waits = at;
    least = λ v y waits.
        let test = each_passes (λ v. no_later (Some x) (s.queue.ranks v)) (range_with_len 0 6) may v (in_range 6 v (six_wait reached v (ap is_some waits))) in
        let le : nat_le x y ≡ true = rw waits at test in
        leb-true x y le;
  }

  run_on : (ts : List ℕ) {xs : List ℕ} {s : State Sum} → Reached sum_kind task xs s → all_lowest 6 (followed sum_kind task) s ts ≡ true → Run sum_kind task (xs ++ ts) (fold (followed sum_kind task) s ts)
  run_on [] {xs} {s} reached may =
      rw (append-nil xs) (record {
        reached = reached;
        over = λ v. none_waits (s.queue.ranks v) (λ waits. each_passes (λ u. is_none (s.queue.ranks u)) (range_with_len 0 6) may v (in_range 6 v (six_wait reached v waits)));
      })
    where
      none_waits : (q : Option ℕ) → (is_some q ≡ true → is_none q ≡ true) → q ≡ None
      none_waits None test = refl
      none_waits (Some x) test = absurd (cc (test refl))
  run_on (t ∷ ts) {xs} {s} reached may =
      let parts = and_parts (of_lowest 6 s t) (all_lowest 6 (followed sum_kind task) (followed sum_kind task s t) ts) may in
      subst (λ (zs : List ℕ). Run sum_kind task zs (fold (followed sum_kind task) s (t ∷ ts))) (append_assoc xs (t ∷ []) ts)
      (run_on ts (next reached (lowest_of reached t (s.queue.ranks t) refl parts.0)) parts.1)

pub plain_run : Run sum_kind (to_work Plain both_worked) (0 ∷ 2 ∷ 1 ∷ 3 ∷ 4 ∷ []) (after (to_work Plain both_worked) (0 ∷ 2 ∷ 1 ∷ 3 ∷ 4 ∷ []))
plain_run = run_on Plain both_worked (0 ∷ 2 ∷ 1 ∷ 3 ∷ 4 ∷ []) start refl

pub reuse_run : Run sum_kind (to_work Reuse both_worked) (0 ∷ []) (after (to_work Reuse both_worked) (0 ∷ []))
reuse_run = run_on Reuse both_worked (0 ∷ []) start refl

pub along_two_run : Run sum_kind (to_work Reuse two_worked) (0 ∷ 2 ∷ 1 ∷ []) (after (to_work Reuse two_worked) (0 ∷ 2 ∷ 1 ∷ []))
along_two_run = run_on Reuse two_worked (0 ∷ 2 ∷ 1 ∷ []) start refl

pub prune_run : Run sum_kind (to_work Prune both_worked) (0 ∷ 2 ∷ 1 ∷ 3 ∷ 4 ∷ []) (after (to_work Prune both_worked) (0 ∷ 2 ∷ 1 ∷ 3 ∷ 4 ∷ []))
prune_run = run_on Prune both_worked (0 ∷ 2 ∷ 1 ∷ 3 ∷ 4 ∷ []) start refl

-- what the contract wants
pub ruleset worked_out = (links_sound, rows_right, source_sound, two_sound, both_sound, five_sound, five_not_right, odd_sound, lone_sound, plain_run, reuse_run, along_two_run, prune_run)
