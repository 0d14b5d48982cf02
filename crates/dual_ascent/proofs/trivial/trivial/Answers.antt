use Rattle.std.proofs.Common.{◌≡◌, arith, rules, subst, sym, length, replicate}
use Rattle.std.specs.Prelude.{pos, negsuc}
use Rattle.pair_duals.specs.PairDuals.{Duals, Fit, cube}
use Rattle.dual_ascent.proofs.Trivials.{Fit-same}
use Rattle.dual_ascent.proofs.trivial.trivial.Goals as goal

pub returns-clause-fits : goal.returns-clause-fits
returns-clause-fits c = λ I size range.
    let F = c.in_ok-facilities.facilities.items in
    let G = c.in_ok-locations.locations.items in
    let alpha : c.in_ok-alpha.alpha.items ≡ replicate (cube (length F)) (negsuc 35184372088831) = search rules in
    let beta : c.in_ok-beta.beta.items ≡ replicate (cube (length F)) (pos 0) = search rules in
    let count : length G ≡ length F = search rules in
    let D : Duals = record { size = c.size.result; facilities = F; locations = G; scale = c.args.scale; alpha = c.in_ok-alpha.alpha.items; beta = c.in_ok-beta.beta.items } in
    subst (λ (E : Duals). Fit I E) (sym c.constant.ensures)
    (Fit-same I D range.products count
    (λ i h. omega (arith, size, (c.in_ok-facilities.ensures.free.each i h).within))
    (λ k h. omega (arith, size, (c.in_ok-locations.ensures.free.each k h).within))
    alpha beta)
