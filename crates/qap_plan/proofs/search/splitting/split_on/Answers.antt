use Rattle.std.proofs.Common.{arith}
use Rattle.std.proofs.lemmas.Int.{ints}
use Rattle.qap_plan.proofs.search.splitting.split_on.Goals as goal

pub loop-preserved : goal.loop-preserved
loop-preserved g c = let less = c.in_ok-finer.ensures.no_dearer in let before = c.loop.invariant.1 in (c.in_ok-finer.ensures.skeleton, omega (arith, ints, less, before))
