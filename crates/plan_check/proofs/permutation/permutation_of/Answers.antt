use Rattle.std.proofs.Common.{arith}
use Rattle.plan_check.proofs.Locations.{locations_of_perm}
use Rattle.plan_check.proofs.permutation.permutation_of.Goals as goal

pub perm_of-requires : goal.perm_of-requires
perm_of-requires c =
    let (listed, within) = c.in_ok-locations.ensures in
    locations_of_perm c.args.numbers.now c.in_ok-locations.locations.items c.args.size listed (omega arith) c.requires.positive c.requires.small within c.in-None.ensures
