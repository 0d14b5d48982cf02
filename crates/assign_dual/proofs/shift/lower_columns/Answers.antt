use Rattle.std.proofs.Common.{◌≡◌, ◌<◌, ◌≤◌, ◌*◌, ◌∙◌, get_or, length, map, arith, subst, sym}
use Rattle.std.specs.Prelude.{ℤ, unsigned_abs}
use Rattle.std.proofs.lemmas.Int.{ints}
use Rattle.std.proofs.lemmas.List.{length-map, map-set}
use Rattle.assign_dual.proofs.Shifting.{LowersColumns-more}
use Rattle.assign_dual.proofs.Values.{value_read, value_within}
use Rattle.assign_dual.proofs.shift.lower_columns.Goals as goal
use Rattle.assign_dual.specs.Number.{number_at}

pub lowered-requires-clause-dual : goal.lowered-requires-clause-dual
lowered-requires-clause-dual g c =
    let value = g.N.Number.value in
    let q = c.loop-q.q in
    let k = get_or c.args.columns.now q 0 in
    let below : q < length c.args.columns.now = omega (arith, c.requires.left) in
    let within : k < length c.args.columns.now = c.requires.order.within q below in
    let counts = length-map c.args.v.now value in
    let same : number_at (map value c.loop-q.v) k ≡ number_at (map value c.args.v.now) k = c.loop-q.invariant.others q (omega arith) below in
    let dual = value_read value c.loop-q.v k _ c.index-v-k.is (omega (arith, c.requires.v_count)) in
    subst (λ (z : ℤ). unsigned_abs z ≤ 2 * g.N.Number.most) (sym (dual ∙ same)) (c.requires.v_range.each k (omega (arith, c.requires.v_count)))

pub lowered-requires-clause-distance : goal.lowered-requires-clause-distance
lowered-requires-clause-distance g c =
    let below = c.requires.order.within c.loop-q.q (omega (arith, c.requires.left)) in
    value_within _ _ _ _ _ c.requires.distances_range c.index-distances-k.is (omega (arith, below, c.requires.distances_count))

pub loop-q-preserved : goal.loop-q-preserved
loop-q-preserved g c =
    let value = g.N.Number.value in
    let q = c.loop-q.q in
    let k = get_or c.args.columns.now q 0 in
    let below : q < length c.args.columns.now = omega (arith, c.requires.left) in
    let within : k < length c.args.columns.now = c.requires.order.within q below in
    let counts = length-map c.args.v.now value in
    let same : number_at (map value c.loop-q.v) k ≡ number_at (map value c.args.v.now) k = c.loop-q.invariant.others q (omega arith) below in
    let dual = value_read value c.loop-q.v k _ c.index-v-k.is (omega (arith, c.requires.v_count)) in
    let distance = value_read value c.args.distances.now k _ c.index-distances-k.is (omega (arith, c.requires.distances_count)) in
    let write = map-set value c.loop-q.v k c.lowered.result in
    rw write
    (LowersColumns-more _ _ _ _ _ _ _ c.requires.order (omega (arith, length-map c.loop-q.v value, c.requires.v_count)) below c.loop-q.invariant (omega (arith, ints, dual, distance, c.lowered.ensures)))
