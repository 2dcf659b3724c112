use Rattle.std.specs.Prelude.{◌≡◌, ◌+◌, ◌*◌, ◌≤◌, ℕ, length}
use Rattle.std.proofs.Common.{◌∙◌, arith, mul-le-mul_right, suc, suc-mul}
use Rattle.std.proofs.lemmas.List.FromFn.{length-map-range_with_len}
use Rattle.std.specs.Option.{unwrap_or}
use Rattle.plan.specs.View.{view}
use Rattle.tables.specs.Copied.{befores, numbers}
use Rattle.capi.proofs.Accepted.{copy_accepted, on_accepted}
use Rattle.capi.proofs.FilledRows.{filled_after, room_in_part}
use Rattle.capi.proofs.copying.copy_table.Goals as goal

pub loop-source-preserved : goal.loop-source-preserved
loop-source-preserved g c =
    let m = g.K.Cost.kind in
    let v = view m c.args.plan.now in
    let n = v.ledger.stations in
    let k = c.counts-stations.result.stations in
    let same = c.counts-stations.ensures.stations in
    let a = c.loop-source.source in
    let rows_fit : suc a * n ≤ n * n = mul-le-mul_right n (omega (arith, c.loop-source-test.true, same)) in
    let xs = c.args.costs.now in
    let ys = c.args.predecessors.now in
    let costs_room : a * n + n ≤ length xs = omega (arith, suc-mul a n, rows_fit, c.requires.costs_fit) in
    let befores_room : a * n + n ≤ length ys = omega (arith, suc-mul a n, rows_fit, c.requires.predecessors_fit) in
    let costs_long : (b : ℕ) → length (numbers m n (v.rows b)) ≡ n = λ b. length-map-range_with_len (λ s. m.rank ((v.rows b).costs s)) 0 n in
    let befores_long : (b : ℕ) → length (befores n (v.rows b)) ≡ n = λ b. length-map-range_with_len (λ s. unwrap_or ((v.rows b).predecessors s) 65535) 0 n in
    let so_far = c.loop-source.invariant in
    let effect = c.copy_row.ensures.effect in
    let none = copy_accepted v.ledger a _ _ (omega (arith, c.loop-source-test.true, same)) (c.requires.marked a (omega (arith, c.loop-source-test.true, same)))
    (room_in_part (λ b. numbers m n (v.rows b)) n costs_long a xs costs_room k c.loop-source.costs c.copy_row.new.costs same so_far.costs)
    (room_in_part (λ b. befores n (v.rows b)) n befores_long a ys befores_room k c.loop-source.predecessors c.copy_row.new.predecessors same so_far.predecessors) in
    let copied = on_accepted c.copy_row.result (effect.refusal ∙ none) effect.copied in record {
      costs = filled_after (λ b. numbers m n (v.rows b)) n costs_long a xs costs_room k c.loop-source.costs c.copy_row.new.costs same so_far.costs copied.costs;
      predecessors = filled_after (λ b. befores n (v.rows b)) n befores_long a ys befores_room k c.loop-source.predecessors c.copy_row.new.predecessors same so_far.predecessors copied.predecessors;
    }
