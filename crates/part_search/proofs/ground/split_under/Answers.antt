use Rattle.part_search.proofs.ground.split_under.Goals as goal

pub children_of-requires-clause-free : goal.children_of-requires-clause-free
children_of-requires-clause-free g c =
    let opened = (c.in_ok-children.ensures {u = tt}).opened in
    rw c.deref.ensures.value (λ k d below. record { facility = (opened k d below).facility; location = (opened k d below).location })

pub returns-clause-stand : goal.returns-clause-stand
returns-clause-stand g c =
    let asked = c.in_ok-children.ensures {u = tt} in
    c.children_of.ensures c.args.parent.now.instance.now c.split.new.incumbent.cost (rw (c.scale.ensures.value) (rw c.deref.ensures.value asked.opened)) (rw c.deref.ensures.value asked.settled)
