use Rattle.std.proofs.Common.{◌+◌, ◌*◌, length}
use Rattle.subtree_search.proofs.ground.Ground.+diving.Given as goal

abbrev pub decreases-dive : goal.decreases-dive
decreases-dive l = 2 * length l.deeper.now

abbrev pub decreases-dive_below : goal.decreases-dive_below
decreases-dive_below l = 2 * length l.deeper.now + 1
