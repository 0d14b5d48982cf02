use Rattle.qap_proof.proofs.MissingParts.{ListsMissingTo}
use Rattle.qap_proof.proofs.missing.short_leaves.Given as goal

abbrev pub invariant-loop-number : goal.invariant-loop-number
invariant-loop-number l = ListsMissingTo l.proof.root.size l.proof.cost l.leaves l.number l.parts.items
