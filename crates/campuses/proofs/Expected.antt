-- What a call has to answer by rows that were worked by hand, and that a plan's call answers just that.
--
--   Hand                   rows by hand, and how the supplier's row fails that is tested
--   sound hand g e         the call e is not refused by the ledger g, or for its list alone; the rows that it rests on pass all tests
--   expected hand g e old  its reply, where its places hold old
--   placed hand g e old    what they hold then
use Rattle.std.proofs.Common.{ℕ, Bool, true, ◌&&◌, ◌==◌, nat_lt, if◌then◌else◌}
use Rattle.std.proofs.Common.{List, ◌++◌, length, drop, is_none, Ok, Err}
use Rattle.std.specs.Prelude.{Result}
use Rattle.cost.specs.Sum.{sum_kind}
use Rattle.cost.specs.declared.sum.Sum.{Sum}
use Rattle.refusal.specs.Code.{bare}
use Rattle.refusal.specs.declared.Code.{Code}
use Rattle.refusal.specs.declared.Facts.TheVariants.{AtStation}
use Rattle.refusal.specs.declared.Failing.{Failing}
use Rattle.routes.proofs.ByHand.{passes_all, one_tight, fails_only}
use Rattle.routes.specs.Fails.{fails}
use Rattle.routes.specs.Row.{Row}
use Rattle.routes.specs.Runs.{below_far}
use Rattle.routes.specs.declared.method.Method.{Method}
use Rattle.routes.specs.declared.method.Method.TheVariants.{Plain, Reuse, Prune}
use Rattle.ledger.specs.Ledger.{Ledger, network}
use Rattle.ledger.specs.Log.{Entry, lay, lift, work, cost, route, check}
use Rattle.ledger.specs.Refusals.{lay_refusal, lift_refusal, work_refusal, cost_refusal, check_refusal}
use Rattle.ledger.specs.RouteAnswer.{route_refusal}
use Rattle.ledger.specs.Traced.{traced}
use Rattle.ledger.specs.View.{given}
use Rattle.campuses.specs.Asked.{Reply, laid, lifted, worked, costed, routed, checked}

-- stations that are written, where they fit, into a list that held old
abbrev pub fitting : List ℕ → List ℕ → Result ℕ Code
fitting old stations = if nat_lt (length old) (length stations) then Err (bare 12) else Ok (length stations)

abbrev pub written : List ℕ → List ℕ → List ℕ
written old stations = if nat_lt (length old) (length stations) then old else stations ++ drop (length stations) old

pub record Hand : Type 0 where
  pub rows : ℕ → Row Sum
  pub failing : Failing

module _ (hand : Hand) (g : Ledger Sum) where
  abbrev pub row_passes : ℕ → Bool
  row_passes a = nat_lt a g.stations && passes_all sum_kind (network g) a (hand.rows a)

  abbrev pub counted : ℕ → ℕ
  counted a = below_far sum_kind g.stations (hand.rows a)

  abbrev pub way : ℕ → ℕ → List ℕ
  way a b = traced (hand.rows a) g.stations b

  abbrev pub settled : Method → ℕ → Bool
  settled Plain n = true
  settled Reuse n = n == 1
  settled Prune n = true

  abbrev pub sound : Entry Sum → Bool
  sound (lay a b c) = is_none (lay_refusal sum_kind g a b c)
  sound (lift a b) = is_none (lift_refusal g a b)
  sound (work a method) = is_none (work_refusal g a) && (row_passes a && settled method (counted a))
  sound (cost a b) = is_none (cost_refusal g a b) && row_passes a
  sound (route a b places) = is_none (route_refusal sum_kind g (hand.rows a) a b) && (row_passes a && one_tight sum_kind (network g) a (hand.rows a))
  sound (check a xs ys) =
      is_none (check_refusal g a xs ys)
      && (nat_lt hand.failing.station g.stations
      && (fails sum_kind (network g) a (given sum_kind xs ys) hand.failing.station hand.failing.cause
      && fails_only sum_kind (network g) a (given sum_kind xs ys) (λ B cause. B == hand.failing.station && cause == hand.failing.cause)))

  abbrev pub expected : Entry Sum → List ℕ → Reply
  expected (lay a b c) old = laid (Ok tt)
  expected (lift a b) old = lifted (Ok tt)
  expected (work a method) old = worked (Ok (counted a))
  expected (cost a b) old = costed (Ok (sum_kind.rank ((hand.rows a).costs b)))
  expected (route a b places) old = routed (fitting old (way a b))
  expected (check a xs ys) old = checked (Err (record { number = 14; facts = AtStation hand.failing }))

  abbrev pub placed : Entry Sum → List ℕ → List ℕ
  placed (lay a b c) old = old
  placed (lift a b) old = old
  placed (work a method) old = old
  placed (cost a b) old = old
  placed (route a b places) old = written old (way a b)
  placed (check a xs ys) old = old
