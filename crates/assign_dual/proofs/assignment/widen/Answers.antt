use Rattle.std.proofs.Common.{arith}
use Rattle.std.specs.Prelude.{pos}
use Rattle.std.proofs.lemmas.List.{length-map, ext_get_or}
use Rattle.assign_dual.proofs.assignment.widen.Goals as goal

pub returns : goal.returns
returns g c =
    let count = length-map c.args.numbers.now g.N.Number.value in
    ext_get_or (pos 0) _ _ (omega (arith, count, c.loop-k.invariant.count))
    (λ j h. c.loop-k.invariant.filled j (omega (arith, h, c.loop-k.invariant.count, c.loop-k-test.false)))
