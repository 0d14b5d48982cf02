use Rattle.std.proofs.Common.{arith}
use Rattle.qap_proof.proofs.ChildValues.{other_location, other_facility}
use Rattle.qap_proof.proofs.walking.is_image.Goals as goal

pub takes_location-requires-clause-inside : goal.takes_location-requires-clause-inside
takes_location-requires-clause-inside c =
    let p = c.args.parent.now in
    (other_location p.split.now.side p.node.now p.others.now c.from.result c.requires.placement c.in-Facility.is c.requires.others (omega (arith, c.from.ensures, c.requires.earlier, c.requires.inside))).within

pub takes_facility-requires-clause-inside : goal.takes_facility-requires-clause-inside
takes_facility-requires-clause-inside c =
    let p = c.args.parent.now in
    (other_facility p.split.now.side p.node.now p.others.now c.from.result c.requires.placement c.in-Location.is c.requires.others (omega (arith, c.from.ensures, c.requires.earlier, c.requires.inside))).within
