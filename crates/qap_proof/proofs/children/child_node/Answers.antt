use Rattle.qap_proof.proofs.ChildValues.{other_location, other_facility}
use Rattle.qap_proof.proofs.children.child_node.Goals as goal

pub place-requires-clause-location : goal.place-requires-clause-location
place-requires-clause-location c =
    other_location c.args.split.now.side c.args.node.now c.args.others.now c.args.child c.requires.placement c.in-Facility.is c.requires.others c.requires.inside

pub place-requires-in-Location-clause-facility : goal.place-requires-in-Location-clause-facility
place-requires-in-Location-clause-facility c =
    other_facility c.args.split.now.side c.args.node.now c.args.others.now c.args.child c.requires.placement c.in-Location.is c.requires.others c.requires.inside
