use Rattle.std.proofs.Common.{◌≡◌, ℕ, arith, subst}
use Rattle.pair_duals.specs.Largest.{IsLargestSoFar}
use Rattle.pair_duals.proofs.Largests.{IsLargestSoFar-none, IsLargestSoFar-more, IsLargest-all}
use Rattle.pair_duals.proofs.scale.largest_b.Goals as goal

pub loop-i-init : goal.loop-i-init
loop-i-init c = IsLargestSoFar-none _ _

pub loop-i-preserved : goal.loop-i-preserved
loop-i-preserved c = IsLargestSoFar-more _ _ _ _ _ _ c.loop-i.invariant c.b_row.ensures.row c.largest_of_row-largest.ensures

pub returns : goal.returns
returns c =
    let all : c.loop-i.i ≡ c.args.instance.now.size = omega (arith, c.size-i-end.ensures.value) in
    IsLargest-all _ _ _ c.size-i-end.ensures.instance.positive (subst (λ (k : ℕ). IsLargestSoFar c.args.instance.now.size c.args.instance.now.b k c.loop-i.largest) all c.loop-i.invariant)
