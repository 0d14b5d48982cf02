use Rattle.std.proofs.Common.{◌≡◌, sym, subst, ◌∙◌, ap, arith, to_z, of_z}
use Rattle.std.proofs.lemmas.Int.{ints}
use Rattle.std.specs.Int.{w128}
use Rattle.pair_duals.specs.Reduced.{Form, count_of}
use Rattle.subtree_search.specs.Closed.{Reaches, threshold_of}
use Rattle.subtree_search.proofs.Closings.{ReachesTrivially-above, ReachesTrivially-whole}
use Rattle.subtree_search.proofs.Needing.{StaysWithin-left}
use Rattle.subtree_search.proofs.ground.Ground.closes_at_once.Goals as goal

pub returns-then-branch-clause-closed : goal.returns-then-branch-clause-closed
returns-then-branch-clause-closed c = λ _.
    let t = c.threshold.result in
    let passed : to_z w128 (of_z w128 t) ≡ t = omega (arith, ints) in
    ReachesTrivially-above c.args.self.now.instance.now c.args.self.now.duals.now c.args.self.now.step c.args.incumbent.now (to_z w128 (of_z w128 t)) c.args.level.now.form _
    c.requires.node.sound c.requires.incumbent (passed ∙ c.threshold.ensures) c.in_ok-closes_trivially.ensures.least c.if-branch.true

pub returns-clause-closed : goal.returns-clause-closed
returns-clause-closed c = λ _.
    let R = c.args.level.now.form in
    let same = c.closes_trivially.ensures.form in
    let none : count_of R ≡ 0 = ap count_of (sym same) ∙ (let value = c.free.ensures.value in omega (arith, value, c.if-free-gt0.false)) in
    ReachesTrivially-whole c.args.self.now.instance.now c.args.self.now.duals.now.scale c.finish.new.incumbent.cost R _ _ none c.in_ok-closes_trivially.ensures.least
    (subst (λ (S : Form). Reaches c.args.self.now.instance.now c.args.self.now.duals.now.scale c.finish.new.incumbent.cost S.value) same c.in_ok-finish.ensures.closed)

pub returns-then-free-gt0-clause-left : goal.returns-then-free-gt0-clause-left
returns-then-free-gt0-clause-left c = λ _.
    let t = c.threshold.result in
    let passed : to_z w128 (of_z w128 t) ≡ t = omega (arith, ints) in
    StaysWithin-left c.args.level.now.form (to_z w128 (of_z w128 t)) (threshold_of c.args.self.now.duals.now.scale c.args.self.now.step c.args.incumbent.now.cost) _ (passed ∙ c.threshold.ensures) c.in_ok-closes_trivially.ensures.least c.if-branch.false
