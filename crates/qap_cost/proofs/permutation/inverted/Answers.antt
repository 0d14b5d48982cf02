use Rattle.std.proofs.Common.{arith}
use Rattle.qap_cost.specs.Bijection.{IsInverse}
use Rattle.qap_cost.proofs.Bijections.{IsInverse-from_there, inverse-IsPerm}
use Rattle.qap_cost.proofs.permutation.inverted.Goals as goal

pub returns : goal.returns
returns c =
    let inverse : IsInverse c.args.locations.now c.loop-i.facilities.items =
    IsInverse-from_there _ _ c.requires.permutation.bijection (omega (arith, c.loop-i.facilities.ok.0))
    (λ i h. c.loop-i.invariant.1 i (omega arith)) in
    record { inverse = inverse; permutation = inverse-IsPerm _ _ c.requires.permutation inverse }
