-- Each station's place is its number.
use Rattle.std.proofs.Common.{rules, arith, ℕ, ◌<◌, ◌≡◌, slice_index}
use Rattle.heap.proofs.tree.Tree.new.Goals as goal

-- what the closure gives at k
number : (c : goal.After-from_fn-numbers) (k : ℕ) → k < 256 → slice_index c.from_fn-numbers.result k ≡ k
number c k l = let h = c.from_fn-numbers.ensures.items.at k 0 l in let e = h.2.met in search (rules, e)

pub returns-clause-whole : goal.returns-clause-whole
returns-clause-whole c = record {
  paired = record {
    is_station = λ k l. omega (arith, number c k l);
    is_place = λ k l. omega (arith, number c k l);
    there = λ k l. rw (number c k l) (number c k l);
    back = λ k l. rw (number c k l) (number c k l);
  };
  fits = omega arith;
  order = λ p q k l. absurd (omega (arith, l));
}
