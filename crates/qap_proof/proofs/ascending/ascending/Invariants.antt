use Rattle.qap_proof.proofs.AscendingNodes.{IsAscendingTo}
use Rattle.qap_proof.proofs.ascending.ascending.Given as goal

abbrev pub invariant-loop-facility : goal.invariant-loop-facility
invariant-loop-facility l = IsAscendingTo l.facility l.node l.root
