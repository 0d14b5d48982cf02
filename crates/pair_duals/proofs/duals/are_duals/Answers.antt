use Rattle.std.proofs.Common.{arith, below_more}
use Rattle.std.proofs.lemmas.Int.{ints}
use Rattle.pair_duals.proofs.Values.{value_read, value_within}
use Rattle.pair_duals.proofs.duals.are_duals.Goals as goal

pub returns-then-unsigned_abs-most_dual : goal.returns-then-unsigned_abs-most_dual
returns-then-unsigned_abs-most_dual g c =
    let value = g.N.Number.value in (
      λ t. cc,
      λ range.
          let small = value_within value c.args.numbers.now c.loop-number.number-index c.number-item.result _ range c.number-item.is (omega arith) in
          absurd (omega (arith, ints, small, c.widen.ensures, c.unsigned_abs.ensures.value, c.most_dual.ensures)),
    )

pub loop-number-preserved : goal.loop-number-preserved
loop-number-preserved g c =
    let value = g.N.Number.value in
    let i = c.loop-number.number-index in
    below_more _ i c.loop-number.invariant
    (let read = value_read value c.args.numbers.now i c.number-item.result c.number-item.is (omega arith) in
    omega (arith, ints, read, c.widen.ensures, c.unsigned_abs.ensures.value, c.most_dual.ensures))
