use Rattle.std.proofs.Common.{arith}
use Rattle.gilmore_lawler.specs.Table.{matrix_of}
use Rattle.gilmore_lawler.proofs.Tables.{AllWithin-entries, length-matrix}
use Rattle.gilmore_lawler.proofs.small.are_all_small.Goals as goal

pub returns : goal.returns
returns c =
    let I = c.args.instance.now in
    λ yes. AllWithin-entries 100000000 I.size (matrix_of I c.args.side) (length-matrix I c.args.side c.size-i-end.ensures.instance)
    (λ r j hr hj. c.loop-i.invariant r j (omega (arith, hr, c.size-i-end.ensures.value, c.loop-i-test.false)) hj)
