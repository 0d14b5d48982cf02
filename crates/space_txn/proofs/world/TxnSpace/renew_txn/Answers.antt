use Rattle.std.proofs.Common.{rules}
use Rattle.space_txn.specs.Machine.{done, renew_txn}
use Rattle.space_txn.specs.World.{World, world_of}
use Rattle.space_txn.proofs.WorldLemmas.{step_world}
use Rattle.space_txn.proofs.world.TxnSpace.renew_txn.Goals as goal

pub invariant_of-self : goal.invariant_of-self
invariant_of-self c =
    let old : World = world_of c.self.inside.space c.self.inside.live c.self.inside.begun c.self.inside.commits in
    step_world old c.args.txn.now (renew_txn c.args.asked) done _ c.args.txn.now (search rules) c.self.invariant
