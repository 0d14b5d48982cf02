use Rattle.space_txn.specs.World.{World, world_of}
use Rattle.space_txn.proofs.WorldLemmas.{world_aborted}
use Rattle.space_txn.proofs.world.TxnSpace.abort_leaving.Goals as goal

pub invariant_of-self : goal.invariant_of-self
invariant_of-self c =
    let old : World = world_of c.self.inside.space c.self.inside.live c.self.inside.begun c.self.inside.commits in
    rw (c.unpin.ensures, c.remove.ensures) (world_aborted old c.txn.inside.number c.self.invariant)
