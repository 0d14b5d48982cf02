use Rattle.space_txn.specs.World.{World, world_of}
use Rattle.space_txn.proofs.WorldLemmas.{out_world}
use Rattle.space_txn.proofs.world.TxnSpace.out.Goals as goal

pub invariant_of-self : goal.invariant_of-self
invariant_of-self c =
    let old : World = world_of c.self.inside.space c.self.inside.live c.self.inside.begun c.self.inside.commits in
    out_world old c.args.tuple c.args.lease c.out.result c.out.new.self c.out.ensures.step c.self.invariant
