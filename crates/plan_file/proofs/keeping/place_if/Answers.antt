use Rattle.plan_file.proofs.Sortings.{IsSortedTo-more, IsSortedTo-skip, free_location, on_ok_with}
use Rattle.plan_file.proofs.keeping.place_if.Goals as goal

pub put-requires-clause-location : goal.put-requires-clause-location
put-requires-clause-location c = free_location c.args.node.now c.args.sorted.now c.args.f c.in-Some.place c.requires.placement c.in-Some.ensures c.requires.sorted

pub returns-in-Some : goal.returns-in-Some
returns-in-Some c =
    on_ok_with c.put.result _ _
    (λ is. IsSortedTo-more c.args.node.now c.args.sorted.now c.put.new.self c.args.f c.in-Some.place c.requires.placement c.requires.sorted c.in-Some.ensures is c.put.ensures.placement)
    c.put.ensures.ok

pub returns-in-None : goal.returns-in-None
returns-in-None c = IsSortedTo-skip c.args.node.now c.args.sorted.now c.args.f c.requires.sorted c.in-None.ensures
