-- What a station offers along its own row, if that is right, is fair.
use Rattle.std.proofs.Common.{◌≡◌, List, ℕ, ◌<◌, inl, ⊎_elim, Option, Some, None, refl, ap, arith}
use Rattle.std.specs.List.{Contains}
use Rattle.cost.specs.Kind.{Kind, Same, AtMost, Below}
use Rattle.cost.specs.Laws.{Laws, ZeroLeast}
use Rattle.cost.specs.declared.link.Link.{Link}
use Rattle.routes.specs.Network.{Between}
use Rattle.routes.specs.Walk.{SomeWalk}
use Rattle.routes.specs.Row.{Row, Right}
use Rattle.routes.specs.Task.{Task}
use Rattle.routes.specs.State.{State}
use Rattle.routes.specs.Offers.{Offer}
use Rattle.routes.specs.Methods.{along_row}
use Rattle.routes.specs.declared.method.Method.TheVariants.{Prune}
use Rattle.routes.proofs.Costs.{on_no_less, at_most_far, far_behind}
use Rattle.routes.proofs.JoinedWalks.{along_last}
use Rattle.routes.proofs.MadeOffers.{along, each_along, in_along}
use Rattle.routes.proofs.RightRows.{at_zero, no_better}
use Rattle.routes.proofs.Labels.{Preceded}
use Rattle.routes.proofs.Steps.{OfferedTo, Fair}

module _ {K : Type 0} {m : Kind K} (laws : Laws m) (zero_least : ZeroLeast m) (task : Task K) (between : Between task.network) (xs : List ℕ) (s : State K) (t : ℕ)
    (walk : SomeWalk m task.network task.source t (s.row.costs t)) (t_there : t < task.network.stations) (row : Row K) (right : Right m task.network t row)
  where
    offered_along : (v : ℕ) (c : K) → v < task.network.stations → AtMost m (m.joined (s.row.costs t) (row.costs v)) c → OfferedTo m task (along_row m s t task.network.stations row) v c
    offered_along v c there le = record { offer = along m s t task.network.stations row v; made = in_along m s t task.network.stations row v there; here = refl; at_most = le }

    -- an offer that betters a label is for another station than t, at a cost below FAR, and so over the row's predecessor
    preceded_along : (v : ℕ) → v < task.network.stations → Below m (m.joined (s.row.costs t) (row.costs v)) (s.row.costs v) → (q : Option ℕ) → row.predecessors v ≡ q
        → Preceded m task q v (m.joined (s.row.costs t) (row.costs v))
    preceded_along v there below None none =
        let most = at_most_far laws (s.row.costs v) in
        let more = on_no_less laws zero_least (s.row.costs t) (row.costs v) in
        absurd (⊎_elim
        (λ (e : v ≡ t). let same = ap (λ (u : ℕ). m.rank (s.row.costs u)) e in omega arith)
        (λ (far : Same m (row.costs v) m.far). let f = far_behind laws (s.row.costs t) (row.costs v) far in omega arith)
        ((right.missing v there).0 none))
    preceded_along v there below (Some p) is = record { station = p; is = refl; last = along_last laws walk (right.given v p there is) }

    given_along : (o : Offer K) → Contains (along_row m s t task.network.stations row) o → Below m o.cost (s.row.costs o.station) → Preceded m task o.predecessor o.station o.cost
    given_along =
        each_along m s t task.network.stations row (λ o. Below m o.cost (s.row.costs o.station) → Preceded m task o.predecessor o.station o.cost)
        (λ v there below. preceded_along v there below (row.predecessors v) refl)

    -- t's own cost in its row is zero, so no link from t offers more than the row
    covers_along : (l : Link K) → Contains task.network.links l → l.from ≡ t → OfferedTo m task (along_row m s t task.network.stations row) l.to (m.joined (s.row.costs t) l.cost)
    covers_along l laid from =
        let better = no_better laws between right l laid in
        let at = ap (λ (u : ℕ). m.rank (row.costs u)) from in
        let zero = at_zero laws between right t_there in
        let on_zero = laws.join_keeps_right (row.costs l.from) m.zero l.cost (omega arith) in
        let left = laws.zero_left l.cost in
        offered_along l.to (m.joined (s.row.costs t) l.cost) (between l laid).1 (laws.join_keeps_left (row.costs l.to) l.cost (s.row.costs t) (omega arith))

    -- nor a link from a station that the row reaches
    goes_on_along : (l : Link K) → Contains task.network.links l → (v : ℕ) → l.from ≡ v
        → OfferedTo m task (along_row m s t task.network.stations row) l.to (m.joined (m.joined (s.row.costs t) (row.costs v)) l.cost)
    goes_on_along l laid v from =
        let better = rw from at (no_better laws between right l laid) in
        let le = laws.join_keeps_left (row.costs l.to) (m.joined (row.costs v) l.cost) (s.row.costs t) better in
        let same = laws.join_associative (s.row.costs t) (row.costs v) l.cost in
        offered_along l.to (m.joined (m.joined (s.row.costs t) (row.costs v)) l.cost) (between l laid).1 (omega arith)

    pub fair_along : (task.method ≡ Prune → ⊥) → Fair m task xs s t (along_row m s t task.network.stations row)
    fair_along other = record {
      given = given_along;
      firsts = λ prune. absurd (other prune);
      covers = λ l laid from. inl (covers_along l laid from);
      goes_on = λ o has put l laid.
          each_along m s t task.network.stations row (λ o. l.from ≡ o.station → OfferedTo m task (along_row m s t task.network.stations row) l.to (m.joined o.cost l.cost))
          (λ v there. goes_on_along l laid v) o has;
    }
