use Rattle.std.proofs.Common.{◌≡◌, ◌+◌, ◌*◌, ◌<◌, ◌≤◌, ◌++◌, ◌∷◌, [], ℕ, List, length, get_or, drop, sym, ◌∙◌, ap, subst, inl, inr, arith}
use Rattle.std.proofs.lemmas.Result.{err_from_is_err_and}
use Rattle.qap_cost.specs.Placement.{Placement, IsFreeLocation, placing}
use Rattle.qap_cert.specs.Fault.{IsTreeFault}
use Rattle.qap_cert.specs.Shape.{HasShape, AllHaveShape}
use Rattle.qap_cert.specs.Tree.{split, node_of, nodes_of, node_count, nodes_count}
use Rattle.qap_cert.specs.declared.tree.Tree.{Tree}
use Rattle.qap_cert.specs.declared.version.Version.TheVariants.{Second}
use Rattle.qap_cert.specs.Valid.{Valid}
use Rattle.qap_cert.proofs.Trees.{node_of-Split, child_count-nodes_of, node_count-le}
use Rattle.qap_cert.proofs.Bounds.{rows_of_child}
use Rattle.qap_cert.proofs.Checks.{Checked-at, Checked-more, Checked-fault}
use Rattle.qap_cert.proofs.checking.+check.Goals as goal

pub check_tree-check_children-requires : goal.check_tree-check_children-requires
check_tree-check_children-requires t c =
    let x = c.args.node.now in
    let f = c.in-Split.facility in
    let ts = c.in-Split.children.items in
    let is = node_of-Split c.args.tree.now f c.in-Split.children c.in-Split.is in
    let shape : HasShape Second x.size x.facilities (split f (nodes_of ts)) = subst (HasShape Second x.size x.facilities) is c.requires.shape in
    let listed = c.in_ok-locations-in-Split.ensures.free in
    let count = child_count-nodes_of ts in
    let whole : 2 * node_count (node_of c.args.tree.now) ≡ t = c.decreases in
    let smaller : 2 * nodes_count (nodes_of c.deref-in-Split.result.now) + 1 < t =
    omega (arith, whole, ap node_count is, ap (λ us. nodes_count (nodes_of us)) c.deref-in-Split.ensures.value) in (
      smaller,
      (
        c.requires.same_size,
        (
          shape.1,
          (
            subst (λ (ks : List ℕ). (i : ℕ) → i < length ks → IsFreeLocation x (get_or ks i 0)) (sym c.deref.ensures.value) listed.each,
            (
              omega (arith, shape.0, listed.count, c.free_locations.ensures.placement.paired, ap length c.deref.ensures.value),
              (
                omega (arith, shape.3, listed.count, count, c.free_locations.ensures.placement.paired, ap length c.deref.ensures.value, ap length c.deref-in-Split.ensures.value),
                subst (λ us. AllHaveShape Second x.size (x.facilities ++ f ∷ []) (nodes_of us)) (sym c.deref-in-Split.ensures.value) shape.4,
              ),
            ),
          ),
        ),
      ),
    )

pub check_children-loop-i-preserved : goal.check_children-loop-i-preserved
check_children-loop-i-preserved t c =
    let I = c.args.judge.now.ranked.now in
    let x = c.args.parent.now.node.now in
    let f = c.args.parent.now.facility in
    let ks = c.args.parent.now.locations.now in
    let ts = c.args.children.now in
    let i = c.loop-i.i in
    let child = c.index-children-i.result in
    let g = c.args.judge.now.bound in
    let below : i < length ts = omega (arith, c.loop-i-test.true) in
    let at = Checked-at I g x f c.args.line c.loop-i.next ks ts i child below (omega (arith, below, c.requires.one_each)) c.index-children-i.is c.loop-i.invariant in
    let valid = subst (λ (y : Placement). Valid I g y (node_of child)) c.in_ok-part.ensures.value c.in_ok-next.ensures.0 in
    Checked-more I g x f c.args.line c.loop-i.next c.in_ok-next.next ks (nodes_of ts) (get_or ks i 0) (drop (i + 1) ks) (node_of child) (nodes_of (drop (i + 1) ts)) at valid c.in_ok-next.ensures.1

pub check_children-check_tree-requires : goal.check_children-check_tree-requires
check_children-check_tree-requires t c =
    let I = c.args.judge.now.ranked.now in
    let x = c.args.parent.now.node.now in
    let f = c.args.parent.now.facility in
    let ks = c.args.parent.now.locations.now in
    let ts = c.args.children.now in
    let i = c.loop-i.i in
    let child = c.index-children-i.result in
    let part = c.in_ok-part.part in
    let g = c.args.judge.now.bound in
    let below : i < length ts = omega (arith, c.loop-i-test.true) in
    let at = Checked-at I g x f c.args.line c.loop-i.next ks ts i child below (omega (arith, below, c.requires.one_each)) c.index-children-i.is c.loop-i.invariant in
    let part_is : part ≡ placing x f (get_or ks i 0) = c.in_ok-part.ensures.value in
    let size : part.size ≡ x.size = ap (λ (y : Placement). y.size) part_is in
    let whole : 2 * nodes_count (nodes_of ts) + 1 ≡ t = c.decreases in
    let less : node_count (node_of child) ≤ nodes_count (nodes_of ts) = subst (λ (u : Tree). node_count (node_of u) ≤ nodes_count (nodes_of ts)) (sym c.index-children-i.is) (node_count-le ts i child below) in
    let smaller : 2 * node_count (node_of child) < t = omega (arith, whole, less) in
    let rows = rows_of_child I x part f (get_or ks i 0) c.in_ok-rows.rows c.in_ok-rows.ensures part_is in
    (smaller, (c.requires.same_size ∙ sym size, (rows, subst (λ (y : Placement). HasShape Second y.size y.facilities (node_of child)) (sym part_is) at.shape.0)))

pub check_children-returns-in_err-next : goal.check_children-returns-in_err-next
check_children-returns-in_err-next t c =
    let I = c.args.judge.now.ranked.now in
    let x = c.args.parent.now.node.now in
    let f = c.args.parent.now.facility in
    let ks = c.args.parent.now.locations.now in
    let ts = c.args.children.now in
    let i = c.loop-i.i in
    let child = c.index-children-i.result in
    let g = c.args.judge.now.bound in
    let below : i < length ts = omega (arith, c.loop-i-test.true) in
    let at = Checked-at I g x f c.args.line c.loop-i.next ks ts i child below (omega (arith, below, c.requires.one_each)) c.index-children-i.is c.loop-i.invariant in
    let p = err_from_is_err_and c.from_residual-in_err-next.result c.from_residual-in_err-next.ensures.1 in
    rw (p.1, p.2) (elim (c.in_err-next.ensures {u = tt}) [
      | inl memory ↦ inl memory
      | inr fault ↦ inr (Checked-fault I g x f c.args.line c.loop-i.next ks (nodes_of ts) (get_or ks i 0) (drop (i + 1) ks) (node_of child) (nodes_of (drop (i + 1) ts)) c.in_err-next.field-0.0 at
          (subst (λ (y : Placement). IsTreeFault I g y c.loop-i.next (node_of child) c.in_err-next.field-0.0) c.in_ok-part.ensures.value fault))
    ])
