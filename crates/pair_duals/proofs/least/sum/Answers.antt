use Rattle.std.proofs.Common.{◌≡◌, ◌≤◌, ◌*◌, length, map, arith, ap, ◌∙◌, to_z}
use Rattle.std.specs.Prelude.{ℤ, ◌+ℤ◌, unsigned_abs}
use Rattle.std.specs.Int.{w128}
use Rattle.std.proofs.lemmas.Int.{ints, to_z-of_z, fits_signed_from_abs}
use Rattle.std.proofs.lemmas.List.{length-map}
use Rattle.std.proofs.lemmas.Nat.{mul-le}
use Rattle.qap_cost.specs.Sum.{sum_to}
use Rattle.qap_cost.proofs.Sums.{AddsUp-more}
use Rattle.pair_duals.proofs.Products.{roomy}
use Rattle.pair_duals.proofs.Values.{value_read, value_within, value_at}
use Rattle.pair_duals.proofs.least.sum.Goals as goal

pub overflow_add-sum : goal.overflow_add-sum
overflow_add-sum g c =
    let value = g.N.Number.value in
    let k = c.loop-number.number-index in
    let item = value_within value c.args.numbers.now k c.number-item.result _ c.requires.range c.number-item.is c.loop-number-test.true in
    let room = (roomy g.N.Number.limits g.met.N.Number.enough).wide in
    let widen = c.widen-sum.ensures in
    let so_far = c.loop-number.invariant.small in
    let few : k * g.N.Number.limits.sum ≤ 256 * g.N.Number.limits.sum = mul-le _ _ _ _ (omega (arith, c.requires.small)) (omega arith) in
    let small : unsigned_abs c.widen-sum.result ≤ g.N.Number.limits.sum = omega (arith, ints, widen, item) in
    let read = to_z-of_z w128 c.widen-sum.result (fits_signed_from_abs w128 c.widen-sum.result (omega (arith, small, room))) in
    fits_signed_from_abs w128 _ (rw read (omega (arith, ints, so_far, few, small, room)))

pub loop-number-preserved : goal.loop-number-preserved
loop-number-preserved g c =
    let value = g.N.Number.value in
    let k = c.loop-number.number-index in
    let item = value_within value c.args.numbers.now k c.number-item.result _ c.requires.range c.number-item.is c.loop-number-test.true in
    let is = value_read value c.args.numbers.now k c.number-item.result c.number-item.is c.loop-number-test.true in
    let room = (roomy g.N.Number.limits g.met.N.Number.enough).wide in
    let widen = c.widen-sum.ensures in
    let small : unsigned_abs c.widen-sum.result ≤ g.N.Number.limits.sum = omega (arith, ints, widen, item) in
    let read = to_z-of_z w128 c.widen-sum.result (fits_signed_from_abs w128 c.widen-sum.result (omega (arith, small, room))) in
    AddsUp-more (to_z w128 c.loop-number.sum-bits) c.widen-sum.result _ (value_at (map value c.args.numbers.now)) k g.N.Number.limits.sum c.loop-number.invariant (widen ∙ is) small
    (to_z-of_z w128 _ (overflow_add-sum g c) ∙ ap (λ (z : ℤ). to_z w128 c.loop-number.sum-bits +ℤ z) read)

pub returns-clause-value : goal.returns-clause-value
returns-clause-value g c =
    let value = g.N.Number.value in
    let all : c.loop-number.number-index ≡ length (map value c.args.numbers.now) = omega (arith, length-map c.args.numbers.now value) in
    c.loop-number.invariant.value ∙ ap (sum_to (value_at (map value c.args.numbers.now))) all
