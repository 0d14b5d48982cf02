use Rattle.space_txn.specs.World.{World, world_of}
use Rattle.space_txn.proofs.WorldLemmas.{inp_world}
use Rattle.space_txn.proofs.world.TxnSpace.inp.Goals as goal

pub invariant_of-self : goal.invariant_of-self
invariant_of-self c =
    let old : World = world_of c.self.inside.space c.self.inside.live c.self.inside.begun c.self.inside.commits in
    inp_world old c.args.template.now c.inp.result c.inp.new.self c.inp.ensures.step c.self.invariant
