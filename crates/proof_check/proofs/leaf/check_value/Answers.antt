use Rattle.std.proofs.Common.{ℕ, ℤ, of_z, subst, to_z, arith}
use Rattle.std.specs.Int.{w128}
use Rattle.std.proofs.lemmas.Int.{ints}
use Rattle.proof_tree.specs.Leaves.{IsGreatest}
use Rattle.proof_tree.specs.Valid.{ReachesBound}
use Rattle.proof_check.proofs.Closing.{PushesLeaf-none, PushesLeaf-one, far_read, reached, scaled_read}
use Rattle.proof_check.proofs.leaf.check_value.Goals as goal

pub returns-then-value-threshold : goal.returns-then-value-threshold
returns-then-value-threshold c = λ reaches.
    let j = c.args.judge.now in
    let scale = c.args.duals.now.scale in
    let low = c.threshold.result in
    let read = far_read low c.threshold.ensures.small in
    let value_read = far_read c.args.value c.requires.small in
    let past = reached j.step j.bound j.below scale low c.args.value c.requires.judge.low (scaled_read j.step j.bound j.below scale low c.requires.judge.low c.threshold.ensures.value) reaches in
    let most = c.if-value-threshold.true in
    omega (arith, ints, read, value_read, past, most)

pub returns-then-value-threshold-2 : goal.returns-then-value-threshold-2
returns-then-value-threshold-2 c =
    let j = c.args.judge.now in
    let scale = c.args.duals.now.scale in
    let high = c.threshold-2.result in
    let read = far_read high c.threshold-2.ensures.small in
    let value_read = far_read c.args.value c.requires.small in
    let above = c.if-value-threshold-2.true in
    PushesLeaf-none j.step j.bound j.below j.cost j.enough scale c.args.value c.args.node.now high c.args.leaves.now.items c.requires.judge
    (scaled_read j.step j.cost j.enough scale high c.requires.judge.high c.threshold-2.ensures.value) (omega (arith, ints, read, value_read, above))

pub returns : goal.returns
returns c =
    let j = c.args.judge.now in
    let scale = c.args.duals.now.scale in
    let low = c.threshold.result in
    let high = c.threshold-2.result in
    let low_read = far_read low c.threshold.ensures.small in
    let high_read = far_read high c.threshold-2.ensures.small in
    let value_read = far_read c.args.value c.requires.small in
    let above = c.if-value-threshold.false in
    let most = c.if-value-threshold-2.false in
    let pushed = c.in_ok-push_leaf.ensures in
    let greatest : IsGreatest (λ b. ReachesBound j.step b scale c.args.value) pushed.0 =
    subst (λ (v : ℤ). IsGreatest (λ b. ReachesBound j.step b scale v) pushed.0) value_read
    (subst (λ (s : ℕ). IsGreatest (λ b. ReachesBound j.step b s (to_z w128 (of_z w128 c.args.value))) pushed.0) c.scale.ensures.value pushed.1) in
    PushesLeaf-one j.step j.bound j.below j.cost j.enough scale c.args.value c.args.node.now low high c.args.leaves.now.items c.push_leaf.new.leaves.items pushed.0 c.requires.judge
    (scaled_read j.step j.bound j.below scale low c.requires.judge.low c.threshold.ensures.value) (omega (arith, ints, low_read, value_read, above))
    (scaled_read j.step j.cost j.enough scale high c.requires.judge.high c.threshold-2.ensures.value) (omega (arith, ints, high_read, value_read, most)) greatest pushed.2
