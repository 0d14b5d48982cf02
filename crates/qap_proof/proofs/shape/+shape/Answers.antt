use Rattle.std.proofs.Common.{◌≡◌, ◌⊎◌, length, sym, ◌∙◌, ap, subst, inr, arith}
use Rattle.std.specs.Prelude.{MatchResult}
use Rattle.std.proofs.lemmas.Result.{err_from_is_err_and}
use Rattle.qap_lines.specs.Line.{line_after}
use Rattle.qap_proof.specs.Fault.{IsShapeFaultAmong}
use Rattle.qap_proof.specs.Memory.{nodes_of}
use Rattle.qap_proof.specs.NodeLine.{split_of}
use Rattle.qap_proof.specs.Shape.{AllHaveShape}
use Rattle.qap_proof.specs.Tree.{child_count, nodes_count}
use Rattle.qap_proof.specs.declared.error.ProofError.TheVariants.{OutOfMemory}
use Rattle.qap_proof.proofs.ChildValues.{others_count}
use Rattle.qap_proof.proofs.Memory.{node_of-Split, child_count-nodes_of}
use Rattle.qap_proof.proofs.Shapes.{Judged-split, IsShapeFault-split}
use Rattle.qap_proof.proofs.shape.+shape.Goals as goal

pub judge_tree-returns-in_err-judge_split-in-Split : goal.judge_tree-returns-in_err-judge_split-in-Split
judge_tree-returns-in_err-judge_split-in-Split t c =
    let p = err_from_is_err_and c.from_residual-in_err-judge_split-in-Split.result c.from_residual-in_err-judge_split-in-Split.ensures.1 in
    let s = c.in-Split.split in
    let children = c.in-Split.children in
    let count : child_count (nodes_of children.items) ≡ c.len.result = child_count-nodes_of children.items ∙ sym children.ok.0 ∙ sym c.len.ensures in
    rw (p.1, p.2) (inr (IsShapeFault-split c.args.node.now c.args.earlier c.args.has_duals c.args.line c.len.result _ (split_of s) (nodes_of children.items) c.in_err-judge_split-in-Split.field-0.0
    (node_of-Split c.args.tree.now s children c.in-Split.is) count (c.in_err-judge_split-in-Split.ensures {u = tt})))

pub judge_tree-returns-in-Split : goal.judge_tree-returns-in-Split
judge_tree-returns-in-Split t c =
    let s = c.in-Split.split in
    let children = c.in-Split.children in
    let x = c.args.node.now in
    let judged = c.in_ok-judge_split-in-Split.ensures in
    let count : child_count (nodes_of children.items) ≡ c.len.result = child_count-nodes_of children.items ∙ sym children.ok.0 ∙ sym c.len.ensures in
    let among = subst (λ ts. MatchResult c.judge_children.result (λ next. AllHaveShape x (split_of s) 0 (nodes_of ts) × (next ≡ line_after c.saturating_add.result (nodes_count (nodes_of ts)))) (λ e. (e ≡ OutOfMemory) ⊎ IsShapeFaultAmong x (split_of s) 0 c.saturating_add.result (nodes_of ts) e)) c.deref.ensures.value c.judge_children.ensures in
    Judged-split x c.args.earlier c.args.has_duals c.args.line c.saturating_add.result _ (split_of s) (nodes_of children.items) c.judge_children.result
    (node_of-Split c.args.tree.now s children c.in-Split.is) judged.0 (count ∙ judged.1) c.saturating_add.ensures among

pub judge_children-child_node-requires-clause-inside : goal.judge_children-child_node-requires-clause-inside
judge_children-child_node-requires-clause-inside t c =
    let many = ap length (c.deref.ensures.value ∙ c.in_ok-others.ensures.value) ∙ others_count c.args.split.now.side c.args.node.now c.free_others.ensures.placement in
    omega (arith, c.loop-child-test.true, c.requires.one_each, many)
