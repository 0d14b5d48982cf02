use Rattle.std.proofs.Common.{◌≡◌, ◌+◌, ◌*◌}
use Rattle.qap_proof.specs.Memory.{nodes_of}
use Rattle.qap_proof.specs.NodeLine.{split_of}
use Rattle.qap_proof.specs.Shape.{free_count}
use Rattle.qap_proof.specs.Walk.{BeginsWithTrees}
use Rattle.qap_proof.proofs.tree_reader.+reading.Given as goal

abbrev pub decreases-read_tree : goal.decreases-read_tree
decreases-read_tree l = 3 * free_count l.node.now + 2

abbrev pub decreases-read_split : goal.decreases-read_split
decreases-read_split l = 3 * free_count l.node.now + 1

abbrev pub decreases-read_children : goal.decreases-read_children
decreases-read_children l = 3 * free_count l.node.now

-- the children before have been read
abbrev pub invariant-read_children-loop-child : goal.invariant-read_children-loop-child
invariant-read_children-loop-child l =
    BeginsWithTrees l.node (split_of l.split) l.child l.line l.text l.rest l.next (λ ts. ts ≡ nodes_of l.trees.items)
