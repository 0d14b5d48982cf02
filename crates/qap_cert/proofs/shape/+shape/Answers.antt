use Rattle.std.proofs.Common.{◌≡◌, sym, ◌∙◌, subst}
use Rattle.std.specs.Prelude.{MatchResult}
use Rattle.std.proofs.lemmas.Result.{err_from_is_err_and}
use Rattle.qap_cert.specs.Fault.{IsShapeFaultAmong}
use Rattle.qap_lines.specs.Line.{line_after}
use Rattle.qap_cert.specs.Shape.{AllHaveShape, child_count}
use Rattle.qap_cert.specs.Tree.{nodes_of, nodes_count}
use Rattle.qap_cert.specs.declared.version.Version.TheVariants.{Second}
use Rattle.qap_cert.proofs.Trees.{node_of-Split, child_count-nodes_of}
use Rattle.qap_cert.proofs.Shapes.{Judged-split, IsShapeFault-split}
use Rattle.qap_cert.proofs.shape.+shape.Goals as goal

pub judge_tree-returns-in_err-judge_split-in-Split : goal.judge_tree-returns-in_err-judge_split-in-Split
judge_tree-returns-in_err-judge_split-in-Split t c =
    let p = err_from_is_err_and c.from_residual.result c.from_residual.ensures.1 in
    let f = c.in-Split.facility in
    let children = c.in-Split.children in
    let count : child_count (nodes_of children.items) ≡ c.len.result = child_count-nodes_of children.items ∙ sym children.ok.0 ∙ sym c.len.ensures in
    rw (p.1, p.2) (IsShapeFault-split c.args.size c.args.placed.now c.args.line _ f c.len.result (nodes_of children.items) c.in_err-judge_split-in-Split.field-0.0
    (node_of-Split c.args.tree.now f children c.in-Split.is) count (c.in_err-judge_split-in-Split.ensures {u = tt}))

pub judge_tree-returns-in_ok-judge_split-in-Split : goal.judge_tree-returns-in_ok-judge_split-in-Split
judge_tree-returns-in_ok-judge_split-in-Split t c =
    let f = c.in-Split.facility in
    let children = c.in-Split.children in
    let judged = c.in_ok-judge_split-in-Split.ensures in
    let inner = c.with-inner.result in
    let count : child_count (nodes_of children.items) ≡ c.len.result = child_count-nodes_of children.items ∙ sym children.ok.0 ∙ sym c.len.ensures in
    let among = subst (λ ts. MatchResult c.judge_trees.result (λ next. AllHaveShape Second c.args.size inner (nodes_of ts) × (next ≡ line_after c.saturating_add.result (nodes_count (nodes_of ts)))) (λ e. IsShapeFaultAmong c.args.size inner c.saturating_add.result (nodes_of ts) e)) c.deref.ensures.value c.judge_trees.ensures in
    Judged-split c.args.size c.args.placed.now inner c.args.line c.saturating_add.result _ f (nodes_of children.items) c.judge_trees.result
    (node_of-Split c.args.tree.now f children c.in-Split.is) c.with-inner.ensures judged.0 judged.1 (count ∙ judged.2) c.saturating_add.ensures among
