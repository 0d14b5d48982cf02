use Rattle.std.proofs.Common.{◌≡◌, refl, ◌∙◌, arith, to_z, of_z}
use Rattle.std.proofs.lemmas.Int.{ints}
use Rattle.std.specs.Int.{w128}
use Rattle.subtree_search.proofs.Closings.{Reaches-above}
use Rattle.subtree_search.proofs.Needing.{not_above}
use Rattle.subtree_search.proofs.ground.Ground.closes_by_value.Goals as goal

pub returns-then-closes-clause-closed : goal.returns-then-closes-clause-closed
returns-then-closes-clause-closed c = λ _.
    let t = c.threshold.result in
    let passed : to_z w128 (of_z w128 t) ≡ t = omega (arith, ints) in
    Reaches-above c.args.self.now.instance.now c.args.self.now.duals.now c.args.self.now.step c.args.incumbent.now (to_z w128 (of_z w128 t)) c.args.level.now.form.value
    c.requires.node.sound c.requires.incumbent (passed ∙ c.threshold.ensures) (c.if-closes.ensures.0 refl)

pub returns-then-free-gt0-clause-within : goal.returns-then-free-gt0-clause-within
returns-then-free-gt0-clause-within c = λ _.
    let t = c.threshold.result in
    let passed : to_z w128 (of_z w128 t) ≡ t = omega (arith, ints) in
    let most = not_above _ _ _ c.if-closes.ensures.1 refl in
    omega (arith, ints, most, passed, c.threshold.ensures)
