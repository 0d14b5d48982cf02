use Rattle.std.proofs.Common.{◌+◌, ◌++◌, List, take, drop, sym, ap, subst}
use Rattle.std.specs.Prelude.{codes, ℕ}
use Rattle.qap_lines.specs.LineText.{line_text}
use Rattle.qap_lines.specs.Writing.{HasWritten}
use Rattle.qap_lines.proofs.WrittenTexts.{HasWritten-then, HasStopped-longer, Writes-then, Writes-same, fails_with, stops_in}
use Rattle.qap_cert.specs.Text.{tree_text, trees_text}
use Rattle.qap_cert.specs.Tree.{node_of, nodes_of}
use Rattle.qap_cert.specs.Version.{split_numbers}
use Rattle.qap_cert.specs.declared.version.Version.TheVariants.{Second}
use Rattle.qap_cert.proofs.WrittenTexts.{trees_text-more, trees_text-rest, tree_text-split}
use Rattle.qap_cert.proofs.writing.+writing.Goals as goal

pub write_tree-returns-in_err-write_split-in-Split : goal.write_tree-returns-in_err-write_split-in-Split
write_tree-returns-in_err-write_split-in-Split g t c =
    let f = c.in-Split.facility in
    let children = c.in-Split.children in
    let line = line_text (codes "s") (split_numbers Second f) in
    let lines = trees_text Second (nodes_of children.items) in
    let contents = g.W.Write.contents in
    let old = c.args.writer.now in
    let new = c.write_split.new.writer in
    let e = c.in_err-write_split-in-Split.field-0.0 in
    let r = c.from_residual.result in
    Writes-same contents old new (line ++ lines) (tree_text Second (node_of c.args.tree.now)) r (sym (tree_text-split c.args.tree.now f children c.in-Split.is))
    (fails_with contents old new (line ++ lines) r e c.from_residual.ensures.1 (HasStopped-longer contents old new line lines e c.in_err-write_split-in-Split.ensures))

pub write_tree-returns-in_ok-write_split-in-Split : goal.write_tree-returns-in_ok-write_split-in-Split
write_tree-returns-in_ok-write_split-in-Split g t c =
    let f = c.in-Split.facility in
    let children = c.in-Split.children in
    let line = line_text (codes "s") (split_numbers Second f) in
    let lines = trees_text Second (nodes_of children.items) in
    let contents = g.W.Write.contents in
    let old = c.args.writer.now in
    let middle = c.write_split.new.writer in
    let new = c.write_trees.new.writer in
    let r = c.write_trees.result in
    let lent = ap (λ ts. trees_text Second (nodes_of ts)) c.deref.ensures.value in
    Writes-same contents old new (line ++ lines) (tree_text Second (node_of c.args.tree.now)) r (sym (tree_text-split c.args.tree.now f children c.in-Split.is))
    (Writes-then contents old middle new line lines r c.in_ok-write_split-in-Split.ensures
    (Writes-same contents middle new (trees_text Second (nodes_of c.deref.result.now)) lines r lent c.write_trees.ensures))

pub write_trees-returns-in_err-write_tree : goal.write_trees-returns-in_err-write_tree
write_trees-returns-in_err-write_tree g t c =
    let ts = c.args.trees.now in
    let i = c.loop-tree.tree-index in
    let tree = c.tree-item.result in
    let contents = g.W.Write.contents in
    let old = c.args.writer.now in
    let new = c.write_tree.new.writer in
    let e = c.in_err-write_tree.field-0.0 in
    let r = c.from_residual.result in
    let front = trees_text Second (nodes_of (take i ts)) in
    let piece = tree_text Second (node_of tree) in
    let more = trees_text Second (nodes_of (drop (i + 1) ts)) in
    Writes-same contents old new (front ++ piece ++ more) (trees_text Second (nodes_of ts)) r (sym (trees_text-rest ts i tree c.loop-tree-test.true c.tree-item.is))
    (stops_in contents old c.loop-tree.writer new front piece more r e c.from_residual.ensures.1 c.loop-tree.invariant c.in_err-write_tree.ensures)

pub write_trees-loop-tree-preserved : goal.write_trees-loop-tree-preserved
write_trees-loop-tree-preserved g t c =
    let ts = c.args.trees.now in
    let i = c.loop-tree.tree-index in
    let tree = c.tree-item.result in
    let contents = g.W.Write.contents in
    let old = c.args.writer.now in
    let new = c.write_tree.new.writer in
    let front = trees_text Second (nodes_of (take i ts)) in
    let more = HasWritten-then contents old c.loop-tree.writer new front (tree_text Second (node_of tree)) c.loop-tree.invariant c.in_ok-write_tree.ensures in
    subst (λ (l : List ℕ). HasWritten contents old new l) (sym (trees_text-more ts i tree c.loop-tree-test.true c.tree-item.is)) more
