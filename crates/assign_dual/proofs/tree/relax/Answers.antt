use Rattle.std.proofs.Common.{◌<◌, get_or, length, arith}
use Rattle.std.proofs.lemmas.Int.{ints}
use Rattle.std.proofs.lemmas.List.{length-map, map-set}
use Rattle.assign_dual.proofs.Relaxing.{Relaxing-keep, Relaxing-take}
use Rattle.assign_dual.proofs.Values.{value_read, value_within}
use Rattle.assign_dual.proofs.tree.relax.Goals as goal
use Rattle.assign_dual.proofs.tree.relax.Goals.{then-is_less, else-is_less}

pub reach-distance-requires-clause-entry : goal.reach-distance-requires-clause-entry
reach-distance-requires-clause-entry g c =
    let within = c.requires.order.within c.loop-q.q (omega arith) in
    value_within _ _ _ _ _ c.requires.row_range c.index-row-k.is (omega (arith, within, c.requires.columns_count))

pub reach-distance-requires-clause-dual : goal.reach-distance-requires-clause-dual
reach-distance-requires-clause-dual g c =
    let within = c.requires.order.within c.loop-q.q (omega arith) in
    value_within _ _ _ _ _ c.requires.v_range c.index-v-k.is (omega (arith, within, c.requires.columns_count, c.requires.v_count))

pub loop-q-preserved : goal.loop-q-preserved
loop-q-preserved g c =
    let value = g.N.Number.value in
    let k = get_or c.args.columns.now c.loop-q.q 0 in
    let below : c.loop-q.q < length c.args.columns.now = omega arith in
    let within : k < length c.args.columns.now = c.requires.order.within c.loop-q.q below in
    let row = value_read value c.args.row.now k _ c.index-row-k.is (omega (arith, c.requires.columns_count)) in
    let v = value_read value c.args.v.now k _ c.index-v-k.is (omega (arith, c.requires.columns_count, c.requires.v_count)) in
    let old = value_read value c.loop-q.distances k _ c.index-distances-k.is (omega (arith, c.requires.columns_count, c.requires.distances_count)) in
    let count = length-map c.loop-q.distances value in
    elim c.if-is_less.branch [
      | then-is_less w ↦
          rw (w.distances-is, w.origins-is, map-set value c.loop-q.distances k c.reach-distance.result)
          (Relaxing-take _ _ _ _ _ _ _ _ _ _ _ c.requires.order (omega (arith, count, c.requires.columns_count, c.requires.distances_count)) (omega (arith, c.requires.columns_count, c.requires.origins_count)) c.loop-q.invariant below (omega arith)
          (omega (arith, ints, row, v, c.reach-distance.ensures))
          (omega (arith, ints, old, c.is_less.ensures.less w.if-is_less.true)))
      | else-is_less w ↦
          rw (w.distances-is, w.origins-is)
          (Relaxing-keep _ _ _ _ _ _ _ _ _ _ c.loop-q.invariant below (omega (arith, ints, old, row, v, c.reach-distance.ensures, c.is_less.ensures.not_less w.if-is_less.false)))
    ]
