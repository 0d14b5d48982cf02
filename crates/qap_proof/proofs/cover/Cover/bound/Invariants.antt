use Rattle.qap_proof.proofs.CoverLaws.{IsBounding}
use Rattle.qap_proof.proofs.cover.Cover.bound.Given as goal

abbrev pub invariant-loop-leaf : goal.invariant-loop-leaf
invariant-loop-leaf l = IsBounding l.self.cost l.self.leaves l.leaf-index l.least
