use Rattle.std.proofs.Common.{◌∙◌, arith}
use Rattle.qap_search.proofs.TupleLemmas.Written.{all_open}
use Rattle.qap_search.proofs.tuples.composing.split_tuples.Goals as goal

pub returns-clause-value : goal.returns-clause-value
returns-clause-value c =
    all_open c.args.node.now c.args.facility c.loop-location.location-index c.loop-location.tuples.items c.deref-location-items.result.now c.loop-location.invariant
    (let end = c.loop-location-test.false in omega arith) (c.deref-location-items.ensures.value ∙ c.in_ok-locations.ensures.value)
