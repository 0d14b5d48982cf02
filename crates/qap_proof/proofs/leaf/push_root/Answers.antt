use Rattle.std.proofs.Common.{length, sym, ◌∙◌, ap, subst, false}
use Rattle.qap_proof.proofs.Memory.{node_of-Split, child_count-nodes_of}
use Rattle.qap_proof.specs.Memory.{nodes_of}
use Rattle.qap_proof.specs.NodeLine.{split_of}
use Rattle.qap_proof.specs.Shape.{HasShape}
use Rattle.qap_proof.specs.Tree.{split}
use Rattle.qap_proof.proofs.leaf.push_root.Goals as goal

pub push_split-requires-clause-one_each : goal.push_split-requires-clause-one_each
push_split-requires-clause-one_each c =
    let x = c.args.node.now in
    let s = split_of c.in-Split.split in
    let ts = c.in-Split.children.items in
    let shape : HasShape x 0 false (split s (nodes_of ts)) =
    subst (HasShape x 0 false) (node_of-Split c.args.tree.now c.in-Split.split c.in-Split.children c.in-Split.is) c.requires.shape in
    ap length c.deref.ensures.value ∙ sym (child_count-nodes_of ts) ∙ shape.1
