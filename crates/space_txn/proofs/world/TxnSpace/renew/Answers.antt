use Rattle.space_txn.specs.World.{World, world_of}
use Rattle.space_txn.proofs.WorldLemmas.{renewal_world}
use Rattle.space_txn.proofs.world.TxnSpace.renew.Goals as goal

pub invariant_of-self : goal.invariant_of-self
invariant_of-self c =
    let old : World = world_of c.self.inside.space c.self.inside.live c.self.inside.begun c.self.inside.commits in
    renewal_world old c.args.id c.args.lease c.renew.result c.renew.new.self c.renew.ensures.step c.self.invariant
