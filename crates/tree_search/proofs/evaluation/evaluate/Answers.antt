use Rattle.std.proofs.Common.{◌≡◌, ◌∙◌, ◌-◌, ◌*◌, ◌^◌, ◌≤◌, length, sym, subst, ap, ap₂, arith}
use Rattle.std.specs.Prelude.{ℤ, unsigned_abs}
use Rattle.std.specs.Int.{w128}
use Rattle.std.proofs.lemmas.Int.{fits_signed_from_abs, ints}
use Rattle.qap_cost.specs.Instance.{Problem}
use Rattle.qap_cost.specs.Matrix.{dual_value}
use Rattle.qap_cost.specs.Placement.{fixed_cost_of}
use Rattle.tree_search.proofs.Values.{assignment-within, within_more}
use Rattle.tree_search.proofs.evaluation.evaluate.Goals as goal

pub returns-clause-evaluation : goal.returns-clause-evaluation
returns-clause-evaluation c =
    let I = c.args.rows.now in
    let x = c.args.node.now in
    let M = c.in_ok-matrix.matrix in
    let made = c.in_ok-matrix.ensures in
    let matrix = c.matrix_law.ensures in
    let a = c.in_ok-matching.ensures.least in
    let u = c.in_ok-matching.field-0.u.items in
    let v = c.in_ok-matching.field-0.v.items in
    let count : M.size ≡ x.size - length x.facilities = made.size in
    let fixed : c.fixed_cost.result ≡ fixed_cost_of I x = c.fixed_cost.ensures.value ∙ ap (λ (J : Problem). fixed_cost_of J x) (c.instance.ensures.value ∙ made.same) in
    let duals : c.dual_sum.result ≡ dual_value u v = c.dual_sum.ensures.value ∙ ap₂ dual_value c.deref.ensures.value c.deref-2.ensures.value in
    let assigned = assignment-within M (512 * 10 ^ 18) c.in_ok-matching.field-0.matching.items made.bounded in
    let small : unsigned_abs (dual_value u v) ≤ M.size * (512 * 10 ^ 18) = rw a.equal assigned in
    record {
      lines = record {
        few = matrix.small;
        facilities = omega (arith, count, c.in_ok-facilities.ensures.free.count);
        locations = omega (arith, count, c.in_ok-locations.ensures.free.count, c.in_ok-locations.ensures.placement.paired);
        u = a.fits.u_count;
        v = a.fits.v_count;
      };
      duals = record {
        rows = a.fits.u_count ∙ count;
        columns = a.fits.v_count ∙ count;
        u_range = within_more _ _ _ (omega arith) (a.u_range _ made.bounded);
        v_range = within_more _ _ _ (omega arith) (a.v_range _ made.bounded);
      };
      fits = record { matrix = M; square = matrix; reduced = made.reduced; fits = a.fits };
      value = omega (arith, ints, fixed, duals, c.dual_sum.ensures.bounded, c.fixed_cost.ensures.bounded);
      limited = omega (arith, ints, fixed, duals, small, matrix.small, c.dual_sum.ensures.bounded, c.fixed_cost.ensures.bounded);
    }
