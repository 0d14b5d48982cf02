use Rattle.std.proofs.Common.{◌+◌, ◌*◌, map, ap, arith}
use Rattle.qap_improve.proofs.Tables.{HasFilled-row, HasFilled-written, place_inside}
use Rattle.qap_improve.proofs.table.fill_row.Goals as goal

pub put-requires : goal.put-requires
put-requires g c =
    place_inside c.args.instance.now.size c.size-n.result c.args.r c.loop-s.s g.N.Number.value c.loop-s.entries c.size-n.ensures.value (omega arith) (omega arith) c.loop-s.invariant.count

pub loop-s-init : goal.loop-s-init
loop-s-init g c = HasFilled-row c.args.instance.now c.args.arrangement.now.locations.items (map g.N.Number.value c.args.entries.now) c.args.r c.requires.above

pub loop-s-preserved : goal.loop-s-preserved
loop-s-preserved g c =
    let r = c.args.r in
    let s = c.loop-s.s in
    let value = g.N.Number.value in
    HasFilled-written c.args.instance.now c.args.arrangement.now.locations.items (map value c.loop-s.entries) _ r s (r * c.size-n.result + s) (value c.difference_of-difference.result)
    (omega arith) (omega arith) (ap (λ n. r * n + s) c.size-n.ensures.value) c.put.ensures c.difference_of-difference.ensures c.loop-s.invariant
