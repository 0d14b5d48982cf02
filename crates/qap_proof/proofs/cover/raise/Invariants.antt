use Rattle.qap_proof.proofs.CoverLaws.{AreRaisedTo}
use Rattle.qap_proof.proofs.cover.raise.Given as goal

abbrev pub invariant-loop-leaf : goal.invariant-loop-leaf
invariant-loop-leaf l = AreRaisedTo l.root l.bound l.leaf-index l.initial.leaves l.leaves
