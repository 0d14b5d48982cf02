use Rattle.std.proofs.Common.{◌≡◌, ℕ, ℤ, of_z, rules, subst, to_z, arith}
use Rattle.std.specs.Int.{w128}
use Rattle.std.proofs.lemmas.Int.{ints}
use Rattle.proof_tree.specs.Valid.{ReachesBound}
use Rattle.subtree_search.specs.Closed.{Reaches}
use Rattle.subtree_search.proofs.Shown.{Reaches-bound, small-value, some-divisor}
use Rattle.subtree_search.proofs.ground.Ground.bound_of.Goals as goal

pub greatest_reached-requires-clause-step : goal.greatest_reached-requires-clause-step
greatest_reached-requires-clause-step c = some-divisor c.args.self.now.instance.now c.args.self.now.step c.requires.divides

pub greatest_reached-requires-clause-small : goal.greatest_reached-requires-clause-small
greatest_reached-requires-clause-small c =
    let near = small-value c.args.level.now.form c.value.ensures.reach in
    let is = c.value.ensures.value in
    omega (arith, ints, near, is)

pub returns : goal.returns
returns c =
    let step = c.args.self.now.step in
    let value = c.args.level.now.form.value in
    let g = c.greatest_reached.result in
    let near = small-value c.args.level.now.form c.value.ensures.reach in
    let is = c.value.ensures.value in
    let read : to_z w128 (of_z w128 c.value.result) ≡ value = omega (arith, ints, near, is) in
    let reached = subst (λ (z : ℤ). ReachesBound step g c.scale.result z) read c.greatest_reached.ensures.reached in
    let same : g ≡ to_z w128 (of_z w128 g) = search rules in
    let I = c.args.self.now.instance.now in
    let D = c.args.self.now.duals.now in
    subst (λ (z : ℤ). Reaches I D.scale z value) same (Reaches-bound I step D.scale g value c.requires.divides (subst (λ (s : ℕ). ReachesBound step g s value) c.scale.ensures.value reached))
