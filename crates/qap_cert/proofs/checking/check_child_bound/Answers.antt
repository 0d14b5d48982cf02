use Rattle.std.proofs.Common.{◌∙◌, sym, refl, inl, inr, arith}
use Rattle.std.proofs.lemmas.Bool.{false≢true}
use Rattle.std.specs.Prelude.{◌+ℤ◌, ◌<ℤ◌}
use Rattle.std.proofs.lemmas.Int.{ints}
use Rattle.qap_cost.specs.Matrix.{dual_value}
use Rattle.qap_cost.specs.Placement.{fixed_cost_of, placing}
use Rattle.gilmore_lawler.specs.Closing.{Fits}
use Rattle.gilmore_lawler.proofs.Closing.{Fits-reduced}
use Rattle.qap_cert.proofs.checking.check_child_bound.Goals as goal

pub returns-then-not-fits : goal.returns-then-not-fits
returns-then-not-fits c =
    let I = c.args.rows.now.instance in
    let x = placing c.args.rows.now.node c.args.rows.now.facility c.args.location in
    let told = c.in_ok-fits.ensures in
    inr (inl (
      refl,
      λ (h : Fits I x c.args.u.now c.args.v.now).
          false≢true (sym c.if-not-fits.true ∙ told.tells.1 (Fits-reduced I x told.matrix c.args.u.now c.args.v.now told.square told.reduced h)),
    ))

pub returns-then-least-bound : goal.returns-then-least-bound
returns-then-least-bound c =
    let I = c.args.rows.now.instance in
    let u = c.args.u.now in
    let v = c.args.v.now in
    let x = placing c.args.rows.now.node c.args.rows.now.facility c.args.location in
    let fixed = c.fixed_cost.ensures in
    let duals = c.dual_sum.ensures in
    let low : (fixed_cost_of I x +ℤ dual_value u v) <ℤ c.args.bound =
    omega (arith, ints, fixed.value, fixed.bounded, duals.value, duals.bounded, c.ranges.bound, c.if-least-bound.true) in
    inr (inr (refl, record { matrix = c.in_ok-fits.ensures.matrix; square = c.in_ok-fits.ensures.square; reduced = c.in_ok-fits.ensures.reduced; fits = c.in_ok-fits.ensures.tells.0 c.if-not-fits.false }, low))

pub returns : goal.returns
returns c =
    let I = c.args.rows.now.instance in
    let u = c.args.u.now in
    let v = c.args.v.now in
    let x = placing c.args.rows.now.node c.args.rows.now.facility c.args.location in
    let fixed = c.fixed_cost.ensures in
    let duals = c.dual_sum.ensures in
    record {
      duals = c.requires.duals;
      closes = record {
        fits = record { matrix = c.in_ok-fits.ensures.matrix; square = c.in_ok-fits.ensures.square; reduced = c.in_ok-fits.ensures.reduced; fits = c.in_ok-fits.ensures.tells.0 c.if-not-fits.false };
        enough = omega (arith, ints, fixed.value, fixed.bounded, duals.value, duals.bounded, c.ranges.bound, c.if-least-bound.false);
      };
    }
