-- What holds of the labels as long as a method runs, and what follows for walks that are cheaper than anything that waits.
use Rattle.std.proofs.Common.{◌≡◌, List, ℕ, zero, suc, ◌<◌, ◌≤◌, true, false, ◌⊎◌, ⊎_elim, Option, Some, None, ap, subst, sym, arith, ◌≢◌}
use Rattle.std.specs.List.{Contains}
use Rattle.std.proofs.lemmas.Bool.{cases_eq, cases_lt, cases_Bool}
use Rattle.cost.specs.Kind.{Kind, FAR, Same, AtMost, Below}
use Rattle.cost.specs.Laws.{Laws, ZeroLeast}
use Rattle.cost.specs.declared.link.Link.{Link}
use Rattle.queue.specs.Drained.{times}
use Rattle.queue.specs.Meaning.{Lowest}
use Rattle.routes.specs.Walk.{Walk, stay, on, SomeWalk, LastBefore}
use Rattle.routes.specs.Task.{Task}
use Rattle.routes.specs.State.{State}
use Rattle.routes.specs.declared.method.Method.TheVariants.{Prune}
use Rattle.routes.proofs.Costs.{on_no_less, at_most_far}
use Rattle.routes.proofs.Follows.{Ranked, waits, lowest_label}

module _ {K : Type 0} (m : Kind K) (task : Task K) where
  -- some walk from the source to v costs less than c
  pub record Cheaper (v : ℕ) (c : K) : Type 0 where
    pub cost : K
    pub walk : Walk m task.network task.source v cost
    pub below : Below m cost c

  -- what c offers to v is no better than v's label, or some walk is cheaper
  abbrev pub Settled : State K → ℕ → K → Type 0
  Settled s v c = AtMost m (s.row.costs v) c ⊎ Cheaper v c

  -- a predecessor that stands last before v on a walk that costs c
  pub record Preceded (q : Option ℕ) (v : ℕ) (c : K) : Type 0 where
    pub station : ℕ
    pub is : q ≡ Some station
    pub last : LastBefore m task.network task.source station v c

  -- a link leads from the source to this first station, and on from there a walk to v; together they cost c. It is v or stands in xs
  pub record Through (xs : List ℕ) (q : Option ℕ) (v : ℕ) (c : K) : Type 0 where
    pub link : Link K
    pub is : q ≡ Some link.to
    pub laid : Contains task.network.links link
    pub leaves : link.from ≡ task.source
    pub cost : K
    pub walk : Walk m task.network link.to v cost
    pub costs_that : Same m (m.joined link.cost cost) c
    pub known : (link.to ≡ v) ⊎ (1 ≤ times link.to xs)

  -- after xs were taken, the source is at zero; any other station below FAR has been reached over its predecessor and, where that is kept, its first
  -- station; a station that does not wait has nothing better to offer, unless there is something better still
  pub record Labels (xs : List ℕ) (s : State K) : Type 0 where
    pub source : s.row.costs task.source ≡ m.zero
    pub source_none : s.row.predecessors task.source ≡ None
    pub far_none : (v : ℕ) → Same m (s.row.costs v) m.far → s.row.predecessors v ≡ None
    pub given : (v : ℕ) → (v ≢ task.source) → Below m (s.row.costs v) m.far → Preceded (s.row.predecessors v) v (s.row.costs v)
    pub firsts : task.method ≡ Prune → (v : ℕ) → (v ≢ task.source) → Below m (s.row.costs v) m.far → Through xs (s.firsts v) v (s.row.costs v)
    pub closed : (l : Link K) → Contains task.network.links l → waits s l.from ≡ false → Below m (s.row.costs l.from) m.far
        → Settled s l.to (m.joined (s.row.costs l.from) l.cost)

  module _ (laws : Laws m) (zero_least : ZeroLeast m) {xs : List ℕ} {s : State K} (labels : Labels xs s) where
    -- every label below FAR is the cost of a walk
    pub walked : (v : ℕ) → Below m (s.row.costs v) m.far → SomeWalk m task.network task.source v (s.row.costs v)
    walked v below =
        ⊎_elim
        (λ (e : v ≡ task.source). subst (λ (u : ℕ). SomeWalk m task.network task.source u (s.row.costs u)) (sym e) (record {
          cost = m.zero;
          walk = stay;
          same = ap m.rank (sym labels.source);
        }))
        (λ (ne : v ≢ task.source). let g = (labels.given v ne below).last in record { cost = g.cost; walk = g.walk; same = g.same })
        (cases_eq v task.source)

    -- a walk that is cheaper than everything that waits is no cheaper than the label where it ends
    module _ (x : ℕ) (high : (v : ℕ) → waits s v ≡ true → x ≤ m.rank (s.row.costs v)) where
      along : (b : ℕ) → ((v : ℕ) (c : K) → Walk m task.network task.source v c → m.rank c < b → m.rank c < x → AtMost m (s.row.costs v) c)
          → (v : ℕ) (c : K) → Walk m task.network task.source v c → m.rank c < suc b → m.rank c < x → AtMost m (s.row.costs v) c
      along b cheaper v c stay lt lx = let e = ap m.rank labels.source in omega arith
      along b cheaper v c (on {c = d} {l = l} walk laid) lt lx =
          let more = on_no_less laws zero_least d l.cost in
          let there = along b cheaper l.from d walk (omega arith) (omega arith) in
          let further = laws.join_keeps_right (s.row.costs l.from) d l.cost there in
          let far = laws.far_rank in
          ⊎_elim
          (λ (yes : waits s l.from ≡ true). let h = high l.from yes in absurd (omega arith))
          (λ (no : waits s l.from ≡ false).
          ⊎_elim
          (λ (e : m.rank (m.joined d l.cost) ≡ FAR). let f = at_most_far laws (s.row.costs l.to) in omega arith)
          (λ (ne : m.rank (m.joined d l.cost) ≡ FAR → ⊥).
          let fits = laws.rank_fits (m.joined d l.cost) in
          ⊎_elim
          (λ (le : AtMost m (s.row.costs l.to) (m.joined (s.row.costs l.from) l.cost)). omega arith)
          (λ (ch : Cheaper l.to (m.joined (s.row.costs l.from) l.cost)).
          let lower = ch.below in
          let that = cheaper l.to ch.cost ch.walk (omega arith) (omega arith) in
          omega arith)
          (labels.closed l laid no (omega arith)))
          (cases_eq (m.rank (m.joined d l.cost)) FAR))
          (cases_Bool (waits s l.from))

      up_to : (b v : ℕ) (c : K) → Walk m task.network task.source v c → m.rank c < b → m.rank c < x → AtMost m (s.row.costs v) c
      up_to zero v c walk lt lx = absurd (omega arith)
      up_to (suc b) v c walk lt lx = along b (up_to b) v c walk lt lx

      pub cheaper_walks_known : (v : ℕ) (c : K) → Walk m task.network task.source v c → m.rank c < x → AtMost m (s.row.costs v) c
      cheaper_walks_known v c walk lx = up_to (suc (m.rank c)) v c walk (omega arith) lx

    -- so the label of a waiting station of the lowest rank is final
    pub final : (t : ℕ) → Ranked m s → Lowest s.queue t → (c : K) → Walk m task.network task.source t c → AtMost m (s.row.costs t) c
    final t ranked lowest c walk =
        ⊎_elim
        (λ (lt : Below m c (s.row.costs t)). cheaper_walks_known (m.rank (s.row.costs t)) (lowest_label m s t ranked lowest) t c walk lt)
        (λ ge. ge)
        (cases_lt (m.rank c) (m.rank (s.row.costs t)))
