use Rattle.std.proofs.Common.{◌≡◌, ◌∙◌, sym, ap, refl, inl, inr, arith}
use Rattle.std.proofs.lemmas.Bool.{false≢true}
use Rattle.std.specs.Prelude.{◌+ℤ◌, ◌<ℤ◌}
use Rattle.std.proofs.lemmas.Int.{ints}
use Rattle.qap_cost.specs.Instance.{Problem}
use Rattle.qap_cost.specs.Matrix.{dual_value}
use Rattle.qap_cost.specs.Placement.{fixed_cost_of}
use Rattle.gilmore_lawler.specs.Closing.{Fits}
use Rattle.gilmore_lawler.proofs.Closing.{Fits-reduced}
use Rattle.qap_cert.proofs.checking.check_bound.Goals as goal

pub returns-then-not-fit : goal.returns-then-not-fit
returns-then-not-fit c =
    let I = c.args.rows.now.instance in
    let told = c.in_ok-fit.ensures in
    inr (inl (
      refl,
      λ (h : Fits I c.args.node.now c.args.u.now c.args.v.now).
          false≢true (sym c.if-not-fit.true ∙ told.tells.1 (Fits-reduced I c.args.node.now told.matrix c.args.u.now c.args.v.now told.square told.reduced h)),
    ))

pub returns-then-reached-bound : goal.returns-then-reached-bound
returns-then-reached-bound c =
    let I = c.args.rows.now.instance in
    let u = c.args.u.now in
    let v = c.args.v.now in
    let fixed = c.fixed_cost.ensures in
    let value : c.fixed_cost.result ≡ fixed_cost_of I c.args.node.now = fixed.value ∙ ap (λ (J : Problem). fixed_cost_of J c.args.node.now) c.instance.ensures.value in
    let duals = c.dual_sum.ensures in
    let low : (fixed_cost_of I c.args.node.now +ℤ dual_value u v) <ℤ c.args.bound =
    omega (arith, ints, value, fixed.bounded, duals.value, duals.bounded, c.ranges.bound, c.if-reached-bound.true) in
    inr (inr (refl, record { matrix = c.in_ok-fit.ensures.matrix; square = c.in_ok-fit.ensures.square; reduced = c.in_ok-fit.ensures.reduced; fits = c.in_ok-fit.ensures.tells.0 c.if-not-fit.false }, low))

pub returns : goal.returns
returns c =
    let I = c.args.rows.now.instance in
    let u = c.args.u.now in
    let v = c.args.v.now in
    let fixed = c.fixed_cost.ensures in
    let value : c.fixed_cost.result ≡ fixed_cost_of I c.args.node.now = fixed.value ∙ ap (λ (J : Problem). fixed_cost_of J c.args.node.now) c.instance.ensures.value in
    let duals = c.dual_sum.ensures in
    record {
      duals = c.requires.duals;
      closes = record {
        fits = record { matrix = c.in_ok-fit.ensures.matrix; square = c.in_ok-fit.ensures.square; reduced = c.in_ok-fit.ensures.reduced; fits = c.in_ok-fit.ensures.tells.0 c.if-not-fit.false };
        enough = omega (arith, ints, value, fixed.bounded, duals.value, duals.bounded, c.ranges.bound, c.if-reached-bound.false);
      };
    }
