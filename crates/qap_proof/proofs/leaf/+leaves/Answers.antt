use Rattle.std.proofs.Common.{◌≡◌, ◌+◌, ◌*◌, ◌<◌, ◌≤◌, List, length, get_or, drop, pos, refl, sym, ◌∙◌, ap, subst, arith}
use Rattle.std.proofs.Math.ListN.{drop_of_length-le}
use Rattle.std.proofs.lemmas.Result.{on_ok_weaker}
use Rattle.std.specs.Prelude.{ℤ}
use Rattle.qap_cost.specs.Placement.{Placement}
use Rattle.qap_proof.proofs.ChildValues.{others_count}
use Rattle.qap_proof.proofs.LeafLists.{Listed-at, Listed-all, Listed-more, ArePushed-cut}
use Rattle.qap_proof.proofs.Memory.{node_of-Split, node_of-Cut, child_count-nodes_of, node_count-le}
use Rattle.qap_proof.proofs.Telling.{some_duals}
use Rattle.qap_proof.specs.Memory.{node_of, nodes_of}
use Rattle.qap_proof.specs.NodeLine.{split_of}
use Rattle.qap_proof.specs.Shape.{AllHaveShape, HasShape, free_count, has_duals}
use Rattle.qap_proof.specs.Tree.{split, cut, node_count, nodes_count, child}
use Rattle.qap_proof.specs.Valid.{AllValid, MayFit, Valid}
use Rattle.qap_proof.specs.Walk.{AreReached}
use Rattle.qap_proof.specs.declared.tree.Tree.{Tree}
use Rattle.qap_proof.proofs.leaf.+leaves.Goals as goal

pub push_child-push_split-requires : goal.push_child-push_split-requires
push_child-push_split-requires t c =
    let I = c.args.judge.now.instance.now in
    let g = c.args.judge.now.bound in
    let p = child c.args.parent.now.node.now (split_of c.args.parent.now.split.now) c.args.child in
    let y = c.args.node.now in
    let d = has_duals (split_of c.args.parent.now.split.now).duals in
    let s = split_of c.in-Split.split in
    let ts = c.in-Split.children.items in
    let is = node_of-Split c.args.tree.now c.in-Split.split c.in-Split.children c.in-Split.is in
    let shape : HasShape y c.args.child d (split s (nodes_of ts)) = subst (HasShape y c.args.child d) is c.requires.shape in
    let valid : Valid I g p (split s (nodes_of ts)) = subst (Valid I g p) is c.requires.valid in
    let here = sym c.requires.node in
    let lent = c.deref.ensures.value in
    let whole : 3 * node_count (node_of c.args.tree.now) ≡ t = c.decreases in
    let smaller : 3 * nodes_count (nodes_of c.deref.result.now) + 2 < t =
    omega (arith, whole, ap node_count is, ap (λ us. nodes_count (nodes_of us)) lent) in (
      smaller,
      (
        c.requires.size ∙ ap (λ (z : Placement). z.size) here,
        (
          shape.0,
          (
            ap length lent ∙ sym (child_count-nodes_of ts) ∙ shape.1,
            (
              subst (λ us. AllHaveShape y s 0 (nodes_of us)) (sym lent) shape.2,
              (
                subst (λ (z : Placement). MayFit I z s.duals) here valid.1,
                (subst (λ us. AllValid I g y s 0 (nodes_of us)) (sym lent) (subst (λ (z : Placement). AllValid I g z s 0 (nodes_of ts)) here valid.3), c.requires.rows),
              ),
            ),
          ),
        ),
      ),
    )

pub push_child-push_cut-requires : goal.push_child-push_cut-requires
push_child-push_cut-requires t c =
    let parent = c.args.parent.now in
    let s = split_of parent.split.now in
    let is = node_of-Cut c.args.tree.now c.in-Cut.is in
    let shape : HasShape c.args.node.now c.args.child (has_duals s.duals) cut = subst (HasShape c.args.node.now c.args.child (has_duals s.duals)) is c.requires.shape in
    let d = some_duals s.duals shape in
    record {
      inside = omega (arith, c.requires.inside, ap length c.requires.others, others_count parent.split.now.side parent.node.now c.requires.placement, c.requires.reached.count d.0 d.1);
    }

pub push_child-returns-in-Cut : goal.push_child-returns-in-Cut
push_child-returns-in-Cut t c =
    let I = c.args.judge.now.instance.now in
    let parent = c.args.parent.now in
    let x = parent.node.now in
    let s = split_of parent.split.now in
    let is = node_of-Cut c.args.tree.now c.in-Cut.is in
    let shape : HasShape c.args.node.now c.args.child (has_duals s.duals) cut = subst (HasShape c.args.node.now c.args.child (has_duals s.duals)) is c.requires.shape in
    let d = some_duals s.duals shape in
    let inside : c.args.child < free_count x = omega (arith, c.requires.inside, ap length c.requires.others, others_count parent.split.now.side x c.requires.placement) in
    let value = get_or parent.values.now c.args.child (pos 0) in
    record {
      pushed = on_ok_weaker c.push_cut.result
          (λ pushed. ArePushed-cut I x s c.args.child (node_of c.args.tree.now) c.args.node.now value c.args.leaves.now.items c.push_cut.new.leaves.items d.0 is c.requires.node d.1
          (c.requires.reached.each d.0 c.args.child d.1 inside) pushed)
          c.push_cut.ensures;
      same = refl;
    }

pub push_children-push_child-requires : goal.push_children-push_child-requires
push_children-push_child-requires t c =
    let I = c.args.judge.now.instance.now in
    let g = c.args.judge.now.bound in
    let x = c.args.parent.now.node.now in
    let s = split_of c.args.parent.now.split.now in
    let ts = c.args.children.now in
    let i = c.loop-child.child in
    let tree = c.index-children-child.result in
    let below : i < length ts = omega (arith, c.loop-child-test.true) in
    let at = Listed-at I g x s ts i tree c.args.leaves.now.items c.loop-child.leaves.items below c.index-children-child.is c.loop-child.invariant.0 in
    let whole : 3 * nodes_count (nodes_of ts) + 1 ≡ t = c.decreases in
    let less : node_count (node_of tree) ≤ nodes_count (nodes_of ts) = subst (λ (u : Tree). node_count (node_of u) ≤ nodes_count (nodes_of ts)) (sym c.index-children-child.is) (node_count-le ts i tree below) in
    let smaller : 3 * node_count (node_of tree) < t = omega (arith, whole, less) in (
      smaller,
      (
        c.requires.size,
        (
          c.requires.placement,
          (
            c.requires.others,
            (
              c.requires.reached,
              (
                omega (arith, below, c.requires.one_each),
                (
                  c.in_ok-node.ensures,
                  (
                    subst (λ (y : Placement). HasShape y i (has_duals s.duals) (node_of tree)) (sym c.in_ok-node.ensures) at.shape.0,
                    (at.valid.0, c.loop-child.invariant.1),
                  ),
                ),
              ),
            ),
          ),
        ),
      ),
    )

pub push_children-loop-child-preserved : goal.push_children-loop-child-preserved
push_children-loop-child-preserved t c =
    let I = c.args.judge.now.instance.now in
    let g = c.args.judge.now.bound in
    let x = c.args.parent.now.node.now in
    let s = split_of c.args.parent.now.split.now in
    let ts = c.args.children.now in
    let i = c.loop-child.child in
    let tree = c.index-children-child.result in
    let below : i < length ts = omega (arith, c.loop-child-test.true) in
    let old = c.args.leaves.now.items in
    let at = Listed-at I g x s ts i tree old c.loop-child.leaves.items below c.index-children-child.is c.loop-child.invariant.0 in
    (Listed-more I g x s i (nodes_of ts) (node_of tree) (nodes_of (drop (i + 1) ts)) old c.loop-child.leaves.items c.push_child.new.leaves.items at c.in_ok-push_child.ensures.pushed, c.in_ok-push_child.ensures.same ∙ c.loop-child.invariant.1)

pub push_children-returns : goal.push_children-returns
push_children-returns t c =
    let I = c.args.judge.now.instance.now in
    let g = c.args.judge.now.bound in
    let x = c.args.parent.now.node.now in
    let s = split_of c.args.parent.now.split.now in
    let ts = c.args.children.now in
    let i = c.loop-child.child in
    let past : length ts ≤ i = omega (arith, c.loop-child-test.false) in
    record {
      pushed = Listed-all I g x s i (nodes_of ts) (nodes_of (drop i ts)) c.args.leaves.now.items c.loop-child.leaves.items (ap nodes_of (drop_of_length-le ts past)) c.loop-child.invariant.0;
      same = c.loop-child.invariant.1 ∙ sym c.requires.rows;
    }

pub push_split-push_children-requires : goal.push_split-push_children-requires
push_split-push_children-requires t c =
    let I = c.args.judge.now.instance.now in
    let x = c.args.node.now in
    let s = split_of c.args.split.now in
    let ts = c.args.children.now in
    let others = c.deref.ensures.value ∙ c.in_ok-others-in-None.ensures.value in
    let placement = c.free_others.ensures.placement in
    let whole : 3 * nodes_count (nodes_of ts) + 2 ≡ t = c.decreases in
    let smaller : 3 * nodes_count (nodes_of ts) + 1 < t = omega (arith, whole) in (
      smaller,
      (
        c.requires.size,
        (
          c.requires.split,
          (
            placement,
            (
              others,
              (
                subst (λ (l : List ℤ). AreReached I x s l) (sym c.deref-in-None.ensures.value) (c.in_ok-values.ensures.reached c.in-None.is),
                (
                  c.requires.one_each ∙ sym (ap length others ∙ others_count c.args.split.now.side x placement),
                  (c.requires.shape, (c.requires.valid, c.in_ok-values.ensures.same ∙ c.requires.rows)),
                ),
              ),
            ),
          ),
        ),
      ),
    )
