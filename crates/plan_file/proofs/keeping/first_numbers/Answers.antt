use Rattle.std.proofs.Common.{sym}
use Rattle.plan_file.proofs.Identities.{range_more}
use Rattle.plan_file.proofs.keeping.first_numbers.Goals as goal

pub loop-k-preserved : goal.loop-k-preserved
loop-k-preserved c = rw (c.in_ok-push.ensures.items, c.loop-k.invariant) (sym (range_more c.loop-k.k))
