use Rattle.std.proofs.Common.{◌≡◌, of_z, rules, to_z, arith}
use Rattle.std.specs.Int.{w128}
use Rattle.proof_tree.proofs.Greatest.{IsComputed-quotient}
use Rattle.subtree_search.proofs.threshold.greatest_reached.Goals as goal

pub overflow_mul-result : goal.overflow_mul-result
overflow_mul-result c =
    let q = c.div_euclid-times.result in
    let read : to_z w128 (of_z w128 q) ≡ q = search rules in
    (IsComputed-quotient c.args.scale c.args.step c.args.value c.from.result c.from-step.result q c.requires.scale c.requires.step (omega (arith, c.ranges.scale.fits)) (omega (arith, c.ranges.step.fits)) c.requires.small c.from.ensures c.from-step.ensures read c.div_euclid-times.ensures).product

pub overflow_add-result : goal.overflow_add-result
overflow_add-result c =
    let q = c.div_euclid-times.result in
    let read : to_z w128 (of_z w128 q) ≡ q = search rules in
    (IsComputed-quotient c.args.scale c.args.step c.args.value c.from.result c.from-step.result q c.requires.scale c.requires.step (omega (arith, c.ranges.scale.fits)) (omega (arith, c.ranges.step.fits)) c.requires.small c.from.ensures c.from-step.ensures read c.div_euclid-times.ensures).sum

pub returns : goal.returns
returns c =
    let q = c.div_euclid-times.result in
    let read : to_z w128 (of_z w128 q) ≡ q = search rules in
    (IsComputed-quotient c.args.scale c.args.step c.args.value c.from.result c.from-step.result q c.requires.scale c.requires.step (omega (arith, c.ranges.scale.fits)) (omega (arith, c.ranges.step.fits)) c.requires.small c.from.ensures c.from-step.ensures read c.div_euclid-times.ensures).greatest
