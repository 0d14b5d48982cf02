use Rattle.std.proofs.Common.{◌*◌, ◌≤◌, to_z, of_z, lit<, ap₂, ◌∙◌}
use Rattle.std.specs.Int.{w128}
use Rattle.std.specs.Prelude.{◌*ℤ◌, unsigned_abs}
use Rattle.std.proofs.lemmas.Int.{to_z-of_z, fits_signed_mul, unsigned_abs-mul}
use Rattle.std.proofs.lemmas.Nat.{mul-le}
use Rattle.plan_charge.proofs.spread.times.Goals as goal

pub returns-clause-value : goal.returns-clause-value
returns-clause-value c =
    let x = c.args.range in
    let y = c.args.flow in
    ap₂ (λ a b. to_z w128 (of_z w128 (a *ℤ b))) (to_z-of_z w128 x c.ranges.range) (to_z-of_z w128 y c.ranges.flow)
    ∙ to_z-of_z w128 (x *ℤ y) (fits_signed_mul w128 x y 18446744073709551616 65536000000000 c.requires.range c.requires.flow (lit< tt))

pub returns-clause-bounded : goal.returns-clause-bounded
returns-clause-bounded c =
    let is : unsigned_abs c.args.range * unsigned_abs c.args.flow ≤ 18446744073709551616 * 65536000000000 = mul-le _ _ _ _ c.requires.range c.requires.flow in
    rw (returns-clause-value c) (rw (unsigned_abs-mul c.args.range c.args.flow) is)
