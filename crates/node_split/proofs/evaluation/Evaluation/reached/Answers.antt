use Rattle.std.proofs.Common.{to_z, of_z, ap, ap₂, ◌∙◌, arith}
use Rattle.std.specs.Prelude.{◌+ℤ◌}
use Rattle.std.specs.Int.{w128}
use Rattle.std.proofs.lemmas.Int.{ints}
use Rattle.node_split.proofs.Exact.{reads}
use Rattle.node_split.proofs.evaluation.Evaluation.reached.Goals as goal

pub overflow_add-result : goal.overflow_add-result
overflow_add-result c =
    let value = c.requires.range.value in
    let value_is = reads c.args.self.now.value (omega (arith, value)) in
    let more = c.reduced.ensures.bounded in
    let more_is = reads c.reduced.result (omega (arith, more)) in
    omega (arith, ints, value, value_is, more, more_is)

pub returns-clause-value : goal.returns-clause-value
returns-clause-value c =
    let value = c.requires.range.value in
    let value_is = reads c.args.self.now.value (omega (arith, value)) in
    let more = c.reduced.ensures.bounded in
    let more_is = reads c.reduced.result (omega (arith, more)) in
    let sum = reads (c.args.self.now.value +ℤ c.reduced.result) (omega (arith, ints, value, more)) in
    ap (λ z. to_z w128 (of_z w128 z)) (ap₂ ◌+ℤ◌ value_is more_is) ∙ sum ∙ ap (λ z. c.args.self.now.value +ℤ z) c.reduced.ensures.value

pub returns-clause-bounded : goal.returns-clause-bounded
returns-clause-bounded c =
    let value = c.requires.range.value in
    let more = c.reduced.ensures.bounded in
    let is = returns-clause-value c in
    let same = c.reduced.ensures.value in
    omega (arith, ints, value, more, is, same)
