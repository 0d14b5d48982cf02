use Rattle.std.proofs.Common.{arith}
use Rattle.qap_proof.proofs.reached.place_of.Goals as goal

pub unreachable-requires : goal.unreachable-requires
unreachable-requires c = let at = c.requires in c.loop-place.invariant at.0 (omega (arith, at.1, c.loop-place-test.false)) at.2
