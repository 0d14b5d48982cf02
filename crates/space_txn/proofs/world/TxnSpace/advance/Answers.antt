use Rattle.std.proofs.Common.{rules}
use Rattle.space_txn.specs.World.{World, world_of}
use Rattle.space_txn.proofs.WorldLemmas.{advance_world}
use Rattle.space_txn.proofs.world.TxnSpace.advance.Goals as goal

pub invariant_of-self : goal.invariant_of-self
invariant_of-self c =
    let old : World = world_of c.self.inside.space c.self.inside.live c.self.inside.begun c.self.inside.commits in
    advance_world old c.args.moment c.advance.result _ (search rules) c.self.invariant
