use Rattle.std.proofs.Common.{◌<◌, ◌∙◌, ap, arith, get_or, length}
use Rattle.qap_cost.specs.Placement.{free_locations}
use Rattle.qap_cost.proofs.Completions.{completion_completes, completion_perm, completion_put, free_facilities_distinct, matched_below}
use Rattle.qap_cost.proofs.completion.completion.Goals as goal

pub pick-requires : goal.pick-requires
pick-requires c = λ t less.
    let x = c.args.node.now in
    let q = c.args.matching.now in
    let count = c.requires.matching.count in
    let below : get_or q t 0 < length (free_locations x) = matched_below x q t c.size-n.ensures.placement c.requires.matching (omega (arith, less, count)) in
    let long = ap length c.requires.locations in
    omega (arith, below, long)

pub put_each-requires-clause-different : goal.put_each-requires-clause-different
put_each-requires-clause-different c =
    free_facilities_distinct c.args.node.now _ c.args.facilities.now c.size-n.ensures.placement (c.put_each-places.ensures.long ∙ c.in_ok-places.ensures ∙ c.size-n.ensures.value) c.requires.facilities

pub returns-clause-completion : goal.returns-clause-completion
returns-clause-completion c =
    let x = c.args.node.now in
    let h = c.size-n.ensures.placement in
    completion_put x c.args.matching.now c.in_ok-places.places.items c.put_each-places.result.items _ c.facilities.result.now c.places.result.now c.args.facilities.now c.deref.result.now c.args.locations.now
    h c.requires.matching (c.in_ok-places.ensures ∙ c.size-n.ensures.value) c.facilities.ensures.value c.places.ensures.value c.requires.facilities
    c.requires.locations (c.deref.ensures.value ∙ c.in_ok-pick.ensures) c.put_each-places.ensures c.put_each.ensures

pub returns-clause-permutation : goal.returns-clause-permutation
returns-clause-permutation c = completion_perm c.args.node.now c.args.matching.now _ c.size-n.ensures.placement c.requires.matching (returns-clause-completion c)

pub returns-clause-completes : goal.returns-clause-completes
returns-clause-completes c = completion_completes c.args.node.now c.args.matching.now _ c.size-n.ensures.placement c.requires.matching (returns-clause-completion c)
