use Rattle.qap_proof.proofs.Roots.{HasTurns}
use Rattle.qap_proof.proofs.root.root_from_one.Given as goal

abbrev pub invariant-loop-turn : goal.invariant-loop-turn
invariant-loop-turn l = HasTurns l.n l.values l.turn l.root
