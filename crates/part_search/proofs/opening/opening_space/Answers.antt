use Rattle.std.proofs.Common.{◌≡◌, ℤ, negsuc, refl, ap, subst, ◌∙◌}
use Rattle.qap_cost.specs.Placement.{IsPlacement, Placement}
use Rattle.subtree_search.specs.Closed.{IsClosed}
use Rattle.part_search.specs.Opening.{part_of}
use Rattle.part_search.specs.Tuples.{node_tuple}
use Rattle.part_search.proofs.Quotients.{root_closed}
use Rattle.part_search.proofs.opening.opening_space.Goals as goal

pub returns : goal.returns
returns c =
    let I = c.args.instance.now in
    let root = c.args.root.now in
    let copy = c.in_ok-copy.ensures {u = tt} in
    let least : ℤ = negsuc 65535999999999999999999 in
    let closed : IsClosed I root least = root_closed I root c.instance_law.ensures c.requires.same_size in
    let node : c.in_ok-node.node ≡ node_tuple (record { node = root; value = least }) =
    (c.in_ok-node.ensures {u = tt}) ∙ ap (λ (x : Placement). node_tuple (record { node = x; value = least })) copy.value in
    rw (c.in_ok-put_forever-2.ensures {u = tt}, c.in_ok-put_forever.ensures {u = tt}, c.new-space.ensures, node, c.in_ok-best.ensures {u = tt})
    (record {
      searched = c.opening_law.ensures (part_of I root c.args.start.now) least (record { root = subst IsPlacement copy.value copy.placement; same_size = c.requires.same_size; start = c.requires.start }) closed;
      fresh = refl;
    })
