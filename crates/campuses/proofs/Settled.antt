-- A call's answer is the one that the rows by hand give, where it is what the ledger asks for.
use Rattle.std.proofs.Common.{◌≡◌, ◌≢◌, ℕ, ◌<◌, ◌≤◌, Bool, true, false, not, nat_lt, if◌then◌else◌, List, ◌++◌, length, drop}
use Rattle.std.proofs.Common.{Option, Some, None, is_none, ◌&&◌, ◌||◌, ◌==◌, Result, Ok, Err, IfOk, OnErr, refl, ap, subst, sym, ◌∙◌, arith}
use Rattle.std.specs.Prelude.{⊤}
use Rattle.std.proofs.lemmas.Bool.{and_parts, true≢false}
use Rattle.std.proofs.lemmas.Bool.Decides.{nat_tests}
use Rattle.cost.specs.Kind.{FAR, Below}
use Rattle.cost.specs.Sum.{sum_kind}
use Rattle.cost.specs.declared.sum.Sum.{Sum}
use Rattle.queue.specs.Meaning.{Meaning}
use Rattle.refusal.specs.Code.{bare}
use Rattle.refusal.specs.First.{told, refused_if}
use Rattle.refusal.specs.declared.Code.{Code}
use Rattle.refusal.specs.declared.Facts.TheVariants.{AtStation}
use Rattle.refusal.specs.declared.Failing.{Failing}
use Rattle.refusal.specs.declared.Refusal.{Refusal}
use Rattle.routes.specs.Fails.{fails}
use Rattle.routes.specs.Network.{Network}
use Rattle.routes.specs.Row.{Row, Right}
use Rattle.routes.specs.Runs.{below_far}
use Rattle.routes.specs.declared.method.Method.{Method}
use Rattle.routes.specs.declared.method.Method.TheVariants.{Plain, Reuse, Prune}
use Rattle.routes.proofs.ByHand.{sum_laws, sum_strict, passes_all, one_tight, fails_only, may_fail, right_by_hand, same_cost, same_chain}
use Rattle.routes.proofs.Checked.{right_passes}
use Rattle.routes.proofs.Counting.{counted_alike}
use Rattle.routes.proofs.Costs.{zero_least_from_strict, at_most_far}
use Rattle.routes.proofs.OneLeast.{one_least}
use Rattle.routes.proofs.RightChains.{right_one}
use Rattle.ledger.proofs.TracedChains.{traced_route}
use Rattle.ledger.specs.Answers.{WorkAnswer, CostAnswer}
use Rattle.ledger.specs.CheckAnswer.{CheckAnswer}
use Rattle.ledger.specs.Fair.{Fair}
use Rattle.ledger.specs.Ledger.{Ledger, network}
use Rattle.ledger.specs.Log.{work, cost, route, check}
use Rattle.ledger.specs.Refusals.{no_station, work_refusal, cost_refusal, check_refusal}
use Rattle.ledger.specs.RouteAnswer.{RouteAnswer, route_refusal}
use Rattle.ledger.specs.View.{given}
use Rattle.ledger.proofs.FairKept.{one_per_pair}
use Rattle.campuses.specs.Asked.{coded, ranked}
use Rattle.campuses.proofs.Expected.{Hand, row_passes, counted, way, settled, sound, fitting, written}

none_is : {X : Type 0} (o : Option X) → is_none o ≡ true → o ≡ None
none_is None is = refl
none_is (Some x) is = absurd (cc is)

-- an answer that tells of no refusal, of any sort
pub unit_told : (r : Result ⊤ Refusal) (o : Option Code) → told r ≡ o → is_none o ≡ true → coded r ≡ Ok tt
unit_told (Ok x) o tells none = refl
unit_told (Err e) o tells none = absurd (cc (tells, none_is o none))

-- stations in a list that is long enough, or else none
fitted : (old new stations : List ℕ) (r : Result ℕ Refusal) (short : Bool) → told r ≡ refused_if short (bare 12) None
    → IfOk r (λ n. (n ≡ length stations) × (new ≡ stations ++ drop n old)) → OnErr r (new ≡ old)
    → (coded r ≡ (if short then Err (bare 12) else Ok (length stations))) × (new ≡ (if short then old else stations ++ drop (length stations) old))
fitted old new stations (Ok n) true refusal is kept = absurd (cc refusal)
fitted old new stations (Ok n) false refusal is kept = (ap Ok is.0, is.1 ∙ ap (λ k. stations ++ drop k old) is.0)
fitted old new stations (Err e) true refusal is kept = (ap Err (cc refusal), kept)
fitted old new stations (Err e) false refusal is kept = absurd (cc refusal)

module _ (hand : Hand) (g : Ledger Sum) (fair : Fair sum_kind (network g)) where
  right_row : (a : ℕ) → row_passes hand g a ≡ true → (a < g.stations) × Right sum_kind (network g) a (hand.rows a)
  right_row a passes =
      let parts = and_parts (nat_lt a g.stations) (passes_all sum_kind (network g) a (hand.rows a)) passes in
      let there : a < g.stations = let test = parts.0 in grind (arith, nat_tests) in
      (there, right_by_hand sum_laws sum_strict fair.between fair.none_free there parts.1)

  -- the refusals of a route, by the rank of the cost
  abbrev refused_by : ℕ → ℕ → ℕ → Option Code
  refused_by a b rank =
      refused_if (no_station g a || no_station g b) (bare 3) (refused_if (not (g.marked a)) (bare 10) (refused_if (rank == FAR) (bare 11) None))

  -- working a row
  module _ (rows : ℕ → Row Sum) (a : ℕ) (method : Method) (row : Row Sum) (queue : Meaning) where
    pub work_settled : (r : Result ℕ Refusal) → sound hand g (work a method) ≡ true → WorkAnswer sum_kind g rows a method r row queue
        → IfOk r (λ taken. taken ≡ queue.taken) → coded r ≡ Ok (counted hand g a)
    work_settled (Err e) passes answer taken =
        let parts = and_parts (is_none (work_refusal g a)) _ passes in
        absurd (cc (answer.refusal, none_is (work_refusal g a) parts.0))
    work_settled (Ok n) passes answer taken =
        let parts = and_parts (is_none (work_refusal g a)) _ passes in
        let more = and_parts (row_passes hand g a) (settled hand g method (counted hand g a)) parts.1 in
        let by_hand = right_row a more.0 in
        let alike : counted hand g a ≡ below_far sum_kind g.stations row =
        counted_alike _ _ g.stations
        (λ v there. ap (λ z. nat_lt z FAR)
        (same_cost sum_laws sum_strict fair.between fair.none_free by_hand.0 by_hand.1 answer.worked.right v there)) in
        let most : queue.taken ≤ counted hand g a = omega (arith, alike, answer.worked.at_most) in
        ap Ok (taken ∙ counts method more.1 answer.worked.some_taken most (λ other. answer.worked.all other ∙ sym alike))
      where
        counts : (how : Method) → settled hand g how (counted hand g a) ≡ true → 1 ≤ queue.taken → queue.taken ≤ counted hand g a
            → (how ≢ Reuse → queue.taken ≡ counted hand g a) → queue.taken ≡ counted hand g a
        counts Plain one some most all = all (λ e. absurd (cc e))
        counts Reuse one some most all = grind (arith, nat_tests)
        counts Prune one some most all = all (λ e. absurd (cc e))

  module _ (a b : ℕ) (row : Row Sum) where
    -- asking for a cost
    pub cost_settled : (r : Result Sum Refusal) → sound hand g (cost a b) ≡ true → CostAnswer sum_kind g row a b r
        → ranked (coded r) ≡ Ok (sum_kind.rank ((hand.rows a).costs b))
    cost_settled (Err e) passes answer =
        let parts = and_parts (is_none (cost_refusal g a b)) (row_passes hand g a) passes in
        absurd (cc (answer.refusal, none_is (cost_refusal g a b) parts.0))
    cost_settled (Ok c) passes answer =
        let parts = and_parts (is_none (cost_refusal g a b)) (row_passes hand g a) passes in
        let none = none_is (cost_refusal g a b) parts.0 in
        let there : b < g.stations = grind (arith, nat_tests) in
        ap Ok (one_least sum_laws answer.least.1 ((right_row a parts.1).1.least b there))

    -- asking for a route
    module _ (right : a < g.stations → g.marked a ≡ true → Right sum_kind (network g) a row) (places : ℕ) (old new : List ℕ) where
      pub route_settled : (r : Result ℕ Refusal) → sound hand g (route a b places) ≡ true → RouteAnswer sum_kind g row a b old new r
          → (coded r ≡ fitting old (way hand g a b)) × (new ≡ written old (way hand g a b))
      route_settled r passes answer =
          let parts =
          and_parts (is_none (route_refusal sum_kind g (hand.rows a) a b)) (row_passes hand g a && one_tight sum_kind (network g) a (hand.rows a)) passes in
          let more = and_parts (row_passes hand g a) (one_tight sum_kind (network g) a (hand.rows a)) parts.1 in
          let none = none_is (route_refusal sum_kind g (hand.rows a) a b) parts.0 in
          let there : b < g.stations = grind (arith, nat_tests) in
          let on : g.marked a ≡ true = grind (arith, nat_tests) in
          let not_far : sum_kind.rank ((hand.rows a).costs b) ≢ FAR = λ e. grind (arith, nat_tests) in
          let near : Below sum_kind ((hand.rows a).costs b) sum_kind.far =
          omega (arith, sum_laws.far_rank, not_far, at_most_far sum_laws ((hand.rows a).costs b)) in
          let by_hand = right_row a more.0 in
          let row_right = right by_hand.0 on in
          let cost = same_cost sum_laws sum_strict fair.between fair.none_free by_hand.0 by_hand.1 row_right b there in
          let accepted : route_refusal sum_kind g row a b ≡ None = ap (refused_by a b) (sym cost) ∙ none in
          let by_row = answer.routed accepted in
          let chain = same_chain sum_laws sum_strict fair.between fair.none_free by_hand.0 by_hand.1 row_right more.1 there by_row.chain in
          let back = right_one by_hand.0 by_hand.1 (traced_route sum_laws sum_strict fair.between fair.none_free by_hand.0 there by_hand.1 near).0 chain in
          let ends = fitted old new (way hand g a b) r (nat_lt (length old) (length (way hand g a b))) in
          subst (λ zs. told r ≡ refused_if (nat_lt (length old) (length zs)) (bare 12) None → IfOk r (λ n. (n ≡ length zs) × (new ≡ zs ++ drop n old))
          → (coded r ≡ fitting old (way hand g a b)) × (new ≡ written old (way hand g a b)))
          back (λ refusal is. ends refusal is answer.kept) by_row.refusal by_row.written

  -- testing a row
  module _ (a : ℕ) (xs : List Sum) (ys : List ℕ) where
    pub check_settled : (r : Result ⊤ Refusal) → sound hand g (check a xs ys) ≡ true → CheckAnswer sum_kind g a xs ys r
        → coded r ≡ Err (record { number = 14; facts = AtStation hand.failing })
    check_settled r passes answer =
        let net : Network Sum = network g in
        let row : Row Sum = given sum_kind xs ys in
        let f : Failing = hand.failing in
        let parts = and_parts (is_none (check_refusal g a xs ys)) (nat_lt f.station g.stations && (fails sum_kind net a row f.station f.cause
        && fails_only sum_kind net a row (λ B cause. B == f.station && cause == f.cause))) passes in
        let inner = and_parts (nat_lt f.station g.stations) (fails sum_kind net a row f.station f.cause
        && fails_only sum_kind net a row (λ B cause. B == f.station && cause == f.cause)) parts.1 in
        let tests = and_parts (fails sum_kind net a row f.station f.cause) (fails_only sum_kind net a row (λ B cause. B == f.station && cause == f.cause)) inner.1 in
        let none = none_is (check_refusal g a xs ys) parts.0 in
        let source : a < g.stations = grind (arith, nat_tests) in
        let there : f.station < g.stations = let test = inner.0 in grind (arith, nat_tests) in
        by_result source there none tests.0 tests.1 r answer
      where
        by_result : a < g.stations → hand.failing.station < g.stations → check_refusal g a xs ys ≡ None
            → fails sum_kind (network g) a (given sum_kind xs ys) hand.failing.station hand.failing.cause ≡ true
            → fails_only sum_kind (network g) a (given sum_kind xs ys) (λ B cause. B == hand.failing.station && cause == hand.failing.cause) ≡ true
            → (r : Result ⊤ Refusal) → CheckAnswer sum_kind g a xs ys r
            → coded r ≡ Err (record { number = 14; facts = AtStation hand.failing })
        by_result source there none fail only (Ok x) answer =
            let right = (answer.accepted.0 refl).1 in
            let passes =
            right_passes sum_laws (zero_least_from_strict sum_laws sum_strict) fair.between (one_per_pair (network g) fair.pairs) source right in
            absurd (true≢false (sym fail ∙ passes.passes hand.failing.station hand.failing.cause there))
        by_result source there none fail only (Err e) answer =
            let faulty = answer.faulty none in
            let f = faulty.failing in
            let may = may_fail sum_kind (network g) a (given sum_kind xs ys) (λ B cause. B == hand.failing.station && cause == hand.failing.cause) only
            f.station f.cause faulty.named.station faulty.named.fails in
            let station : f.station ≡ hand.failing.station = grind (arith, nat_tests) in
            let cause : f.cause ≡ hand.failing.cause = grind (arith, nat_tests) in
            let same : f ≡ hand.failing = λ i. record { station = station i; cause = cause i } in
            ap Err (faulty.code ∙ ap (λ (z : Failing). record { number = 14; facts = AtStation z }) same)
