use Rattle.std.proofs.Common.{◌≡◌, ◌+◌, ◌*◌, ◌^◌, ap, ap₂, ◌∙◌, arith}
use Rattle.std.specs.Prelude.{◌+ℤ◌}
use Rattle.std.proofs.lemmas.Int.{ints}
use Rattle.qap_cost.specs.Instance.{Problem}
use Rattle.qap_cost.specs.Matrix.{dual_value}
use Rattle.qap_cost.specs.Placement.{fixed_cost_of}
use Rattle.qap_proof.proofs.ChildValues.{AllWithin-at, sum_of_two}
use Rattle.node_split.proofs.evaluation.Evaluator.evaluate.Goals as goal

pub returns-clause-evaluated : goal.returns-clause-evaluated
returns-clause-evaluated c =
    let M = c.reduce_into.new.matrix in
    let a = c.solve_into.new.answer in
    let made = c.in_ok-reduce_into.ensures in
    let least = c.in_ok-solve_into.ensures.least in
    let fixed = c.fixed_cost-fixed.ensures in
    let duals = c.dual_sum.ensures in
    let duals_is = duals.value ∙ ap₂ dual_value c.deref.ensures.value c.deref-2.ensures.value in
    let sum = sum_of_two c.fixed_cost-fixed.result c.dual_sum.result fixed.bounded duals.bounded in
    let same : c.instance.result.now ≡ c.args.self.now.rows = c.instance.ensures.value ∙ made.same in
    let fixed_is = fixed.value ∙ ap (λ (I : Problem). fixed_cost_of I c.args.node.now) same in
    record {
      square = c.matrix_law.ensures;
      reduced = made.reduced;
      least = least;
      value = sum ∙ ap₂ ◌+ℤ◌ fixed_is duals_is;
      range = record {
        rows = least.fits.u_count;
        columns = least.fits.v_count;
        entries = λ i k. AllWithin-at (512 * 10 ^ 18) M.entries (i * M.size + k) made.bounded;
        u_range = least.u_range (512 * 10 ^ 18) made.bounded;
        v_range = least.v_range (512 * 10 ^ 18) made.bounded;
        value = omega (arith, ints, sum, fixed.bounded, duals.bounded);
      };
    }
