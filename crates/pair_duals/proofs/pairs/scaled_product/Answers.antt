use Rattle.std.proofs.Common.{◌*◌, ◌≤◌, arith, subst, sym, ◌∙◌, ap}
use Rattle.std.specs.Prelude.{ℤ, pos, ◌*ℤ◌, unsigned_abs}
use Rattle.std.proofs.lemmas.Int.{unsigned_abs-mul}
use Rattle.pair_duals.proofs.Products.{scaled_read, roomy}
use Rattle.pair_duals.proofs.pairs.scaled_product.Goals as goal

pub product-requires : goal.product-requires
product-requires g c =
    let s = c.args.scale in
    let a = c.args.a in
    let b = c.args.b in
    let size = unsigned_abs-mul (pos s) (a *ℤ b) ∙ ap (λ z. s * z) (unsigned_abs-mul a b) in
    let bound : unsigned_abs (pos s *ℤ (a *ℤ b)) ≤ g.N.Number.limits.sum = omega (arith, size, c.requires.small, (roomy g.N.Number.limits g.met.N.Number.enough).cost) in
    subst (λ (z : ℤ). unsigned_abs z ≤ g.N.Number.limits.sum) (sym (scaled_read s c.from.result a b c.from.ensures c.requires.scale c.requires.a_range c.ranges.a c.ranges.b)) bound

pub returns-clause-value : goal.returns-clause-value
returns-clause-value g c =
    c.product.ensures ∙ scaled_read c.args.scale c.from.result c.args.a c.args.b c.from.ensures c.requires.scale c.requires.a_range c.ranges.a c.ranges.b

pub returns-clause-range : goal.returns-clause-range
returns-clause-range g c =
    let s = c.args.scale in
    let a = c.args.a in
    let b = c.args.b in
    let size = unsigned_abs-mul (pos s) (a *ℤ b) ∙ ap (λ z. s * z) (unsigned_abs-mul a b) in
    let bound : unsigned_abs (pos s *ℤ (a *ℤ b)) ≤ g.N.Number.limits.cost = omega (arith, size, c.requires.small) in
    subst (λ (z : ℤ). unsigned_abs z ≤ g.N.Number.limits.cost) (sym (returns-clause-value g c)) bound
