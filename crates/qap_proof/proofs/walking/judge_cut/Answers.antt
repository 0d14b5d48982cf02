use Rattle.std.proofs.Common.{◌≡◌, refl, get_or, pos, to_z, of_z, arith, rules}
use Rattle.std.specs.Int.{w128}
use Rattle.std.specs.Prelude.{◌<ℤ◌, ◌≤ℤ◌}
use Rattle.std.proofs.lemmas.Int.{ints}
use Rattle.qap_proof.proofs.Telling.{IsToldOf-valid, IsToldOf-fault, some_duals}
use Rattle.qap_proof.specs.NodeLine.{split_of}
use Rattle.qap_proof.specs.Tree.{child, cut}
use Rattle.qap_proof.proofs.walking.judge_cut.Goals as goal

pub returns-in-None : goal.returns-in-None
returns-in-None c =
    let I = c.args.judge.now.instance.now in
    let g = c.args.judge.now.bound in
    let parent = c.args.parent.now in
    let s = split_of parent.split.now in
    let d = some_duals s.duals c.requires.duals in
    let value = get_or parent.values.now c.args.child (pos 0) in
    let bound_is : to_z w128 (of_z w128 g) ≡ g = search rules in
    let value_is : to_z w128 (of_z w128 value) ≡ value = search rules in
    let low : value <ℤ g = omega (arith, ints, bound_is, value_is, c.if-parent-child.true) in
    IsToldOf-fault I g (child parent.node.now s c.args.child) c.args.line c.args.told cut _ c.in-None.is
    (refl, record { duals = d.0; has = d.1; value = value; reaches = (c.requires.reached c.in-None.is).each d.0 c.args.child d.1 c.requires.inside; less = low })

pub returns-in-None-2 : goal.returns-in-None-2
returns-in-None-2 c =
    let I = c.args.judge.now.instance.now in
    let g = c.args.judge.now.bound in
    let parent = c.args.parent.now in
    let s = split_of parent.split.now in
    let d = some_duals s.duals c.requires.duals in
    let value = get_or parent.values.now c.args.child (pos 0) in
    let bound_is : to_z w128 (of_z w128 g) ≡ g = search rules in
    let value_is : to_z w128 (of_z w128 value) ≡ value = search rules in
    let enough : g ≤ℤ value = omega (arith, ints, bound_is, value_is, c.if-parent-child.false) in
    IsToldOf-valid I g (child parent.node.now s c.args.child) c.args.line c.args.told cut c.in-None.is
    (record { duals = d.0; has = d.1; value = value; reaches = (c.requires.reached c.in-None.is).each d.0 c.args.child d.1 c.requires.inside; enough = enough })
