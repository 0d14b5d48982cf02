use Rattle.std.proofs.Common.{◌≡◌, ℕ, ◌+◌, ◌-◌, ◌*◌, length, take, drop, ap, ◌∙◌, arith}
use Rattle.std.specs.Int.{w128}
use Rattle.std.proofs.lemmas.Int.{to_z-of_z, fits_signed_from_abs}
use Rattle.gilmore_lawler.specs.Table.{dot}
use Rattle.gilmore_lawler.proofs.fitting.product_with.Goals as goal

pub returns-clause-value : goal.returns-clause-value
returns-clause-value c =
    let w = length c.args.row.now in
    let k = c.args.k in
    let result = c.dot_product.result in
    let e : k * w + w - k * w ≡ w = omega arith in
    to_z-of_z w128 result (fits_signed_from_abs w128 result (omega (arith, c.dot_product.ensures.bounded, c.requires.width)))
    ∙ c.dot_product.ensures.value
    ∙ ap (λ (m : ℕ). dot c.args.row.now (take m (drop (k * w) c.args.others.now))) e
