use Rattle.std.proofs.Common.{arith}
use Rattle.std.proofs.lemmas.Int.{ints}
use Rattle.qap_improve.proofs.tabu.kick.Goals as goal

pub loop-preserved : goal.loop-preserved
loop-preserved g c =
    let below = c.kick_once.ensures.no_dearer in
    let so_far = c.loop.invariant.no_dearer in
    record {
      walk = c.kick_once.ensures.walk;
      size = c.kick_once.ensures.size;
      kept = λ start kept. c.kick_once.ensures.kept start (c.loop.invariant.kept start kept);
      no_dearer = omega (arith, ints, below, so_far);
    }
