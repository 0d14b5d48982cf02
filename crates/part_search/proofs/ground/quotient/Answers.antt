use Rattle.std.proofs.Common.{◌≡◌, ℤ, pos, ◌<ℤ◌, to_z, of_z, rules, subst, sym}
use Rattle.std.specs.Int.{int_div_euclid, w128}
use Rattle.part_search.proofs.Quotients.{below_quotient}
use Rattle.part_search.proofs.ground.quotient.Goals as goal

pub returns : goal.returns
returns c = λ cost below.
    let is : to_z w128 (of_z w128 c.div_euclid.result) ≡ int_div_euclid c.args.number (pos c.args.scale) = search rules in
    subst (λ (z : ℤ). z <ℤ cost) (sym is) (below_quotient c.args.scale c.args.number cost c.requires below)
