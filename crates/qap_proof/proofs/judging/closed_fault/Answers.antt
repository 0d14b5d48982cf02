use Rattle.std.proofs.Common.{rules, ◌≡◌, ◌∙◌, List, ap, ap₂, arith, to_z, of_z}
use Rattle.std.specs.Int.{w128}
use Rattle.std.proofs.lemmas.Int.{ints}
use Rattle.std.specs.Prelude.{ℤ}
use Rattle.qap_cost.specs.Instance.{Problem}
use Rattle.qap_cost.specs.Matrix.{dual_value}
use Rattle.qap_cost.specs.Placement.{fixed_cost_of}
use Rattle.gilmore_lawler.proofs.Closing.{Fits-told}
use Rattle.qap_proof.specs.NodeLine.{pair_of}
use Rattle.qap_proof.proofs.judging.closed_fault.Goals as goal

pub returns-clause-judged : goal.returns-clause-judged
returns-clause-judged c =
    let I = c.args.rows.now in
    let x = c.args.node.now in
    let d = pair_of c.args.duals.now in
    let fixed = c.fixed_cost.ensures in
    let duals = c.dual_sum.ensures in
    let here : fixed_cost_of c.instance.result.now x ≡ fixed_cost_of I x = ap (λ (J : Problem). fixed_cost_of J x) (c.instance.ensures.value ∙ c.in_ok-fits.ensures.same) in
    let lent : dual_value c.deref-3.result.now c.deref-4.result.now ≡ dual_value d.u d.v = ap₂ (λ (u : List ℤ) (v : List ℤ). dual_value u v) c.deref-3.ensures.value c.deref-4.ensures.value in
    let bound_is : to_z w128 (of_z w128 c.args.bound) ≡ c.args.bound = search rules in
    record {
      fits = Fits-told I x d.u d.v c.deref.result.now c.deref-2.result.now c.in_ok-fits.field-0 c.deref.ensures.value c.deref-2.ensures.value c.in_ok-fits.ensures.fit c.if-not-branch.false;
      enough = omega (arith, ints, fixed.value, fixed.bounded, duals.value, duals.bounded, here, lent, bound_is, c.if-reached-bound.false);
    }
