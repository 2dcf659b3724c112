-- What the laws say of joins, in the forms that walks want. No strict law is used, but by the last lemma.
use Rattle.std.proofs.Common.{arith}
use Rattle.std.proofs.lemmas.Bool.{cases_eq}
use Rattle.cost.specs.Kind.{Kind, Same, AtMost}
use Rattle.cost.specs.Laws.{Laws, Strict, ZeroLeast}

module _ {K : Type 0} {m : Kind K} (laws : Laws m) where
  -- equal costs join to equal costs
  pub same_left : (a b c : K) → Same m a b → Same m (m.joined a c) (m.joined b c)
  same_left a b c e =
      let up = laws.join_keeps_right a b c (omega (arith, e)) in
      let down = laws.join_keeps_right b a c (omega (arith, e)) in
      omega arith

  pub same_right : (a b c : K) → Same m a b → Same m (m.joined c a) (m.joined c b)
  same_right a b c e =
      let up = laws.join_keeps_left a b c (omega (arith, e)) in
      let down = laws.join_keeps_left b a c (omega (arith, e)) in
      omega arith

  -- a cost at FAR joins to FAR, on either side
  pub far_before : (a b : K) → Same m a m.far → Same m (m.joined a b) m.far
  far_before a b e = let s = same_left a m.far b e in let f = laws.far_left b in omega arith

  pub far_behind : (a b : K) → Same m b m.far → Same m (m.joined a b) m.far
  far_behind a b e = let s = same_right b m.far a e in let f = laws.far_right a in omega arith

  -- every cost is at most FAR
  pub at_most_far : (a : K) → AtMost m a m.far
  at_most_far a = let f = laws.rank_fits a in let r = laws.far_rank in omega arith

  module _ (zero_least : ZeroLeast m) where
    -- a walk costs no less when it goes on, nor when it begins earlier
    pub on_no_less : (a b : K) → AtMost m a (m.joined a b)
    on_no_less a b =
        let z = laws.join_keeps_left m.zero b a (zero_least b) in
        let r = laws.zero_right a in
        omega arith

    pub earlier_no_less : (a b : K) → AtMost m b (m.joined a b)
    earlier_no_less a b =
        let z = laws.join_keeps_right m.zero a b (zero_least a) in
        let r = laws.zero_left b in
        omega arith

-- the strict laws say that zero is at most every cost
pub zero_least_from_strict : {K : Type 0} {m : Kind K} → Laws m → Strict m → ZeroLeast m
zero_least_from_strict {K} {m} laws strict a =
    let left = laws.zero_left a in
    let above = λ (d : Same m a m.zero → ⊥). strict.join_goes_above m.zero a laws.zero_is_not_far d in
    grind (arith, cases_eq (m.rank a) (m.rank m.zero))
