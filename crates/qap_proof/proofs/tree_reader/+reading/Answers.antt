use Rattle.std.proofs.Common.{◌≡◌, ℕ, ◌+◌, ◌*◌, ◌<◌, ◌++◌, ◌∷◌, [], length, inl, inr, refl, sym, ap, ap₂, ◌∙◌, subst, ⊎_elim, arith, rules, length-append}
use Rattle.std.specs.Prelude.{Bool, MatchResult, ◌⊎◌, codes, pos}
use Rattle.std.proofs.lemmas.Result.{err_from_is_err_and}
use Rattle.qap_cost.specs.Placement.{Placement}
use Rattle.qap_io.specs.Number.{from_one}
use Rattle.qap_lines.specs.Line.{line_after}
use Rattle.qap_proof.proofs.ChildValues.{others_count}
use Rattle.qap_proof.proofs.Memory.{nodes_of-push}
use Rattle.qap_proof.proofs.Rows.{with_last}
use Rattle.qap_proof.proofs.Walks.{map_result, BeginsWithTree-line, BeginsWithTree-split, IsTreeTextFault-among, BeginsWithTrees-more, IsFaultBefore-at}
use Rattle.qap_proof.specs.Memory.{node_of, nodes_of}
use Rattle.qap_proof.specs.NodeLine.{IsNodeLine, split_of}
use Rattle.qap_proof.specs.Shape.{free_count, has_duals}
use Rattle.qap_proof.specs.TextFault.{IsTreeTextFault}
use Rattle.qap_proof.specs.Tree.{Node, split, mirrored, child_of, facility_on}
use Rattle.qap_proof.specs.Walk.{BeginsWithTree, BeginsWithTrees, IsFaultBefore}
use Rattle.qap_proof.specs.declared.error.ProofError.TheVariants.{OutOfMemory}
use Rattle.qap_proof.specs.declared.node_line.NodeLine.TheVariants.{Split as SplitsAt, Mirrored}
use Rattle.qap_proof.specs.declared.node_line.SplitLine.{SplitLine}
use Rattle.qap_proof.proofs.tree_reader.+reading.Goals as goal

pub read_children-read_tree-requires : goal.read_children-read_tree-requires
read_children-read_tree-requires t c =
    let x = c.args.node.now in
    let s = split_of c.args.split.now in
    let i = c.loop-child.child in
    let placement = c.free_others.ensures.placement in
    let many : length c.in_ok-others.others.items ≡ free_count x = ap length c.in_ok-others.ensures.value ∙ others_count c.args.split.now.side x placement in
    let below : i < free_count x = omega (arith, c.loop-child-test.true, c.len-count.ensures, many, c.in_ok-others.others.ok.0) in
    let part : c.in_ok-part.part ≡ child_of x s i = c.in_ok-part.ensures in
    let deeper : length c.in_ok-part.part.facilities ≡ length x.facilities + 1 =
    ap (λ (y : Placement). length y.facilities) part ∙ length-append x.facilities (facility_on s.side x s.number i ∷ []) in
    let size : c.in_ok-part.part.size ≡ x.size = ap (λ (y : Placement). y.size) part in
    let whole : 3 * free_count x ≡ t = c.decreases in
    (omega (arith, whole, deeper, size, c.requires.some), omega (arith, below, placement.small))

pub read_children-returns-in_err-read : goal.read_children-returns-in_err-read
read_children-returns-in_err-read t c =
    let x = c.args.node.now in
    let s = split_of c.args.split.now in
    let i = c.loop-child.child in
    let e = c.in_err-read.field-0.0 in
    let many : length c.in_ok-others.others.items ≡ free_count x = ap length c.in_ok-others.ensures.value ∙ others_count c.args.split.now.side x c.free_others.ensures.placement in
    let few : i < free_count x = omega (arith, c.loop-child-test.true, c.len-count.ensures, many, c.in_ok-others.others.ok.0) in
    let p = err_from_is_err_and c.from_residual-in_err-read.result c.from_residual-in_err-read.ensures.1 in
    rw (p.1, p.2) (⊎_elim inl (λ fault. inr (
    IsFaultBefore-at x s i c.args.line c.args.text.now c.loop-child.rest.now c.loop-child.next (λ ts. ts ≡ nodes_of c.loop-child.trees.items) e c.loop-child.invariant few
    (subst (λ (y : Placement). IsTreeTextFault (free_count y) y i (has_duals s.duals) c.loop-child.next c.loop-child.rest.now e) c.in_ok-part.ensures
    (subst (λ (b : Bool). IsTreeTextFault (free_count c.in_ok-part.part) c.in_ok-part.part i b c.loop-child.next c.loop-child.rest.now e) c.has_duals.ensures fault))))
    (c.in_err-read.ensures {u = tt}))

pub read_children-loop-child-preserved : goal.read_children-loop-child-preserved
read_children-loop-child-preserved t c =
    let x = c.args.node.now in
    let s = split_of c.args.split.now in
    let i = c.loop-child.child in
    let h = c.loop-child.invariant in
    let read = c.in_ok-read.read in
    let now = c.loop-child.trees.items in
    let pushed : c.push.new.self.items ≡ now ++ read.tree ∷ [] = search rules in
    let said : Node → Type 0 = λ t. t ≡ node_of read.tree in
    let k : BeginsWithTree (child_of x s i) i (has_duals s.duals) c.loop-child.next c.loop-child.rest.now read.rest.now read.next said =
    subst (λ (y : Placement). BeginsWithTree y i (has_duals s.duals) c.loop-child.next c.loop-child.rest.now read.rest.now read.next said) c.in_ok-part.ensures
    (subst (λ (b : Bool). BeginsWithTree c.in_ok-part.part i b c.loop-child.next c.loop-child.rest.now read.rest.now read.next said) c.has_duals.ensures c.in_ok-read.ensures) in
    BeginsWithTrees-more x s i c.args.line c.args.text.now c.loop-child.rest.now c.loop-child.next (λ ts. ts ≡ nodes_of now) (λ ts. ts ≡ nodes_of c.push.new.self.items) read.rest.now read.next said h k
    (ap₂ with_last h.holds k.holds ∙ sym (ap nodes_of pushed ∙ nodes_of-push now read.tree))

pub read_children-returns : goal.read_children-returns
read_children-returns t c =
    let x = c.args.node.now in
    let s = split_of c.args.split.now in
    let many : length c.in_ok-others.others.items ≡ free_count x = ap length c.in_ok-others.ensures.value ∙ others_count c.args.split.now.side x c.free_others.ensures.placement in
    let all : c.loop-child.child ≡ free_count x = omega (arith, c.loop-child-test.false, c.loop-child.auto.child-end, c.len-count.ensures, many, c.in_ok-others.others.ok.0) in
    subst (λ (k : ℕ). BeginsWithTrees x s k c.args.line c.args.text.now c.loop-child.rest.now c.loop-child.next (λ ts. ts ≡ nodes_of c.loop-child.trees.items)) all c.loop-child.invariant

pub read_tree-returns-in-Split : goal.read_tree-returns-in-Split
read_tree-returns-in-Split t c =
    let x = c.args.node.now in
    let j = c.args.earlier in
    let d = c.args.has_duals in
    let line = c.args.line in
    let text = c.args.text.now in
    let read = c.in_ok-read.ensures in
    let inner = split_of c.in-Split.split in
    let rest = c.in_ok-read.read.rest.now in
    let next_is : c.saturating_add-next.result ≡ line_after line 1 = c.saturating_add-next.ensures in
    let said : IsNodeLine x j d read.line (SplitsAt c.in-Split.split) = subst (IsNodeLine x j d read.line) c.in-Split.is read.is_node in
    map_result _ _ _ _ c.read_split.result
    (λ r h.
    let whole = subst (λ (k : ℕ). BeginsWithTrees x inner (free_count x) k rest r.rest.now r.next (λ ts. split inner ts ≡ node_of r.tree)) next_is h in
    BeginsWithTree-split x j d line text read.line rest r.rest.now r.next inner (λ t. t ≡ node_of r.tree) (λ ts. split inner ts ≡ node_of r.tree) said.0 read.is said.1 whole whole.holds)
    (λ e. ⊎_elim inl (λ fault. inr (IsTreeTextFault-among x j d line text read.line rest inner e said.0 read.is said.1 (subst (λ (k : ℕ). IsFaultBefore x inner k rest e) next_is fault))))
    (subst (λ (m : SplitLine). MatchResult c.read_split.result
    (λ r. BeginsWithTrees x (split_of m) (free_count x) c.saturating_add-next.result rest r.rest.now r.next (λ ts. split (split_of m) ts ≡ node_of r.tree))
    (λ e. (e ≡ OutOfMemory) ⊎ IsFaultBefore x (split_of m) c.saturating_add-next.result rest e)) c.in-Split.split-is c.read_split.ensures)

pub read_tree-returns-in-Mirrored : goal.read_tree-returns-in-Mirrored
read_tree-returns-in-Mirrored t c =
    let x = c.args.node.now in
    let j = c.args.earlier in
    let d = c.args.has_duals in
    let read = c.in_ok-read.ensures in
    let i = c.in-Mirrored.earlier in
    let m = c.in-Mirrored.image in
    let tree = c.mirrored_tree.result in
    let said : IsNodeLine x j d read.line (Mirrored i m) = subst (IsNodeLine x j d read.line) c.in-Mirrored.is read.is_node in
    let is : node_of tree ≡ mirrored i m = rw c.in-Mirrored.is at c.mirrored_tree.ensures in
    BeginsWithTree-line x j d c.args.line c.args.text.now read.line c.in_ok-read.read.rest.now (codes "m") (pos (i + 1) ∷ from_one m) c.saturating_add-next.result (λ t. t ≡ node_of tree) (mirrored i m)
    (said.0, said.1) refl refl read.is said.2 c.saturating_add-next.ensures (sym is)
