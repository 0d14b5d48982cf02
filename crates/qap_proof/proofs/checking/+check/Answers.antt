use Rattle.std.proofs.Common.{◌≡◌, ◌+◌, ◌*◌, ◌<◌, ◌≤◌, ℕ, List, length, sym, ◌∙◌, ap, subst, inl, inr, ⊎_elim, arith}
use Rattle.std.specs.Prelude.{ℤ}
use Rattle.qap_cost.specs.Placement.{Placement}
use Rattle.qap_lines.specs.Line.{line_after}
use Rattle.qap_proof.proofs.ChildValues.{others_count}
use Rattle.qap_proof.proofs.Checks.{Checked-at, Valid-children}
use Rattle.qap_proof.proofs.Memory.{node_of-Split, child_count-nodes_of, node_count-le}
use Rattle.qap_proof.proofs.Walks.{map_result}
use Rattle.qap_proof.specs.Fault.{IsTreeFaultAmong}
use Rattle.qap_proof.specs.Memory.{node_of, nodes_of}
use Rattle.qap_proof.specs.NodeLine.{split_of}
use Rattle.qap_proof.specs.Shape.{AllHaveShape, HasShape, has_duals}
use Rattle.qap_proof.specs.Tree.{split, node_count, nodes_count}
use Rattle.qap_proof.specs.Walk.{AreReached}
use Rattle.qap_proof.specs.declared.tree.Tree.{Tree}
use Rattle.qap_proof.proofs.checking.+check.Goals as goal

pub check_child-check_split-requires : goal.check_child-check_split-requires
check_child-check_split-requires t c =
    let y = c.args.node.now in
    let d = has_duals (split_of c.args.parent.now.split.now).duals in
    let s = split_of c.in-Split.split in
    let ts = c.in-Split.children.items in
    let is = node_of-Split c.args.tree.now c.in-Split.split c.in-Split.children c.in-Split.is in
    let shape : HasShape y c.args.child d (split s (nodes_of ts)) = subst (HasShape y c.args.child d) is c.requires.shape in
    let lent = c.deref.ensures.value in
    let whole : 3 * node_count (node_of c.args.tree.now) ≡ t = c.decreases in
    let smaller : 3 * nodes_count (nodes_of c.deref.result.now) + 2 < t =
    omega (arith, whole, ap node_count is, ap (λ us. nodes_count (nodes_of us)) lent) in (
      smaller,
      (
        c.requires.size ∙ sym (ap (λ (z : Placement). z.size) c.requires.node),
        (
          shape.0,
          (
            ap length lent ∙ sym (child_count-nodes_of ts) ∙ shape.1,
            (subst (λ us. AllHaveShape y s 0 (nodes_of us)) (sym lent) shape.2, c.requires.rows),
          ),
        ),
      ),
    )

pub check_child-check_cut-requires-clause-inside : goal.check_child-check_cut-requires-clause-inside
check_child-check_cut-requires-clause-inside t c =
    let parent = c.args.parent.now in
    omega (arith, c.requires.inside, ap length c.requires.others, others_count parent.split.now.side parent.node.now c.requires.placement)

pub check_children-check_child-requires : goal.check_children-check_child-requires
check_children-check_child-requires t c =
    let I = c.args.judge.now.instance.now in
    let g = c.args.judge.now.bound in
    let x = c.args.parent.now.node.now in
    let s = split_of c.args.parent.now.split.now in
    let ts = c.args.children.now in
    let i = c.loop-child.child in
    let child = c.index-children-child.result in
    let below : i < length ts = omega (arith, c.loop-child-test.true) in
    let at = Checked-at I g x s c.args.line c.loop-child.next ts i child below c.index-children-child.is c.loop-child.invariant.0 in
    let whole : 3 * nodes_count (nodes_of ts) + 1 ≡ t = c.decreases in
    let less : node_count (node_of child) ≤ nodes_count (nodes_of ts) = subst (λ (u : Tree). node_count (node_of u) ≤ nodes_count (nodes_of ts)) (sym c.index-children-child.is) (node_count-le ts i child below) in
    let smaller : 3 * node_count (node_of child) < t = omega (arith, whole, less) in (
      smaller,
      (
        c.requires.size,
        (
          c.requires.placement,
          (
            c.requires.others,
            (
              c.requires.reached,
              (
                omega (arith, below, c.requires.one_each),
                (
                  c.in_ok-node.ensures,
                  (subst (λ (y : Placement). HasShape y i (has_duals s.duals) (node_of child)) (sym c.in_ok-node.ensures) at.shape.0, c.loop-child.invariant.1),
                ),
              ),
            ),
          ),
        ),
      ),
    )

pub check_split-check_children-requires : goal.check_split-check_children-requires
check_split-check_children-requires t c =
    let I = c.args.judge.now.instance.now in
    let x = c.args.node.now in
    let s = split_of c.args.split.now in
    let ts = c.args.children.now in
    let others = c.deref.ensures.value ∙ c.in_ok-others.ensures.value in
    let placement = c.free_others.ensures.placement in
    let whole : 3 * nodes_count (nodes_of ts) + 2 ≡ t = c.decreases in
    let smaller : 3 * nodes_count (nodes_of ts) + 1 < t = omega (arith, whole) in (
      smaller,
      (
        c.requires.size,
        (
          c.requires.split,
          (
            placement,
            (
              others,
              (
                subst (λ (l : List ℤ). AreReached I x s l) (sym c.deref-2.ensures.value) c.in_ok-values.ensures.judged.1,
                (
                  c.requires.one_each ∙ sym (ap length others ∙ others_count c.args.split.now.side x placement),
                  (c.requires.shape, c.in_ok-values.ensures.same ∙ c.requires.rows),
                ),
              ),
            ),
          ),
        ),
      ),
    )

pub check_split-returns : goal.check_split-returns
check_split-returns t c =
    let I = c.args.judge.now.instance.now in
    let g = c.args.judge.now.bound in
    let x = c.args.node.now in
    let s = split_of c.args.split.now in
    let ts = c.args.children.now in
    let next_is : c.saturating_add-first.result ≡ line_after c.args.line 1 = c.saturating_add-first.ensures in
    let fits = c.in_ok-values.ensures.judged.0 in
    record {
      judged = map_result _ _ _ _ c.check_children.result
          (λ next h. (
            Valid-children I g x s (nodes_of ts) c.requires.split fits (child_count-nodes_of ts ∙ c.requires.one_each) h.0,
            h.1 ∙ ap (λ (k : ℕ). line_after k (nodes_count (nodes_of ts))) next_is,
          ))
          (λ e. ⊎_elim inl (λ fault. inr (inr (fits, subst (λ (k : ℕ). IsTreeFaultAmong I g x s 0 k (nodes_of ts) e) next_is fault))))
          c.check_children.ensures.judged;
      same = c.check_children.ensures.same ∙ c.in_ok-values.ensures.same;
    }
