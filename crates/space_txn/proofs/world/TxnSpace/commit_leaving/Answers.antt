use Rattle.std.proofs.Common.{rules}
use Rattle.space_txn.specs.Machine.{commit, done}
use Rattle.space_txn.specs.World.{World, world_of}
use Rattle.space_txn.proofs.CommitLemmas.{commit_step_changes}
use Rattle.space_txn.proofs.WorldLemmas.{step_world}
use Rattle.space_txn.proofs.world.TxnSpace.commit_leaving.Goals as goal

pub invariant_of-self-2 : goal.invariant_of-self-2
invariant_of-self-2 c =
    let old : World = world_of c.self.inside.space c.self.inside.live c.self.inside.begun c.self.inside.commits in
    step_world old c.args.txn commit done _ c.args.txn (search rules) c.self.invariant

pub returns-clause-content : goal.returns-clause-content
returns-clause-content c = commit_step_changes c.args.self.now _ c.args.txn c.accept.ensures.valid (search rules)
