use Rattle.std.proofs.Common.{◌+◌, rules}
use Rattle.std.specs.Prelude.{Err, Ok}
use Rattle.space_txn.specs.Txn.{txn_of}
use Rattle.space_txn.specs.World.{World, world_of}
use Rattle.space_txn.specs.declared.error.TxnError.TheVariants.{OutOfMemory}
use Rattle.space_txn.proofs.WorldLemmas.{begin_world}
use Rattle.space_txn.proofs.world.TxnSpace.begin_in.Goals as goal

pub invariant_of-self : goal.invariant_of-self
invariant_of-self c =
    let old : World = world_of c.self.inside.space c.self.inside.live c.self.inside.begun c.self.inside.commits in
    begin_world old c.args.asked (Err OutOfMemory) _ (search rules) c.self.invariant

pub invariant_of-self-2 : goal.invariant_of-self-2
invariant_of-self-2 c =
    let old : World = world_of c.self.inside.space c.self.inside.live c.self.inside.begun c.self.inside.commits in
    begin_world old c.args.asked (Ok (txn_of (c.self.inside.begun + 1) c.into_lists-lists.result.value.marks.items c.into_lists-lists.result.value.writes)) _ (search rules) c.self.invariant
