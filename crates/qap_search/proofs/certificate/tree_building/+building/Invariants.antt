use Rattle.std.specs.Prelude.{◌+◌, ◌-◌, ◌*◌, length}
use Rattle.qap_cert.specs.Tree.{nodes_of}
use Rattle.qap_search.specs.Certificate.TreeBuilding.{ahead}
use Rattle.qap_search.proofs.CertificateLemmas.Taking.{HaveTaken}
use Rattle.qap_search.proofs.certificate.tree_building.+building.Given as goal

abbrev pub decreases-take_child : goal.decreases-take_child
decreases-take_child l = 3 * (l.parent.now.size - length l.parent.now.facilities)

abbrev pub decreases-take_children : goal.decreases-take_children
decreases-take_children l = 3 * (l.node.now.size - length l.node.now.facilities) + 1

abbrev pub decreases-take_split : goal.decreases-take_split
decreases-take_split l = 3 * (l.node.now.size - length l.node.now.facilities) + 2

-- so many children have been taken
abbrev pub invariant-take_children-loop-i : goal.invariant-take_children-loop-i
invariant-take_children-loop-i l = HaveTaken l.node l.facility l.locations.items (ahead l.fn.nodes.items) (nodes_of l.children.items) l.i (ahead l.nodes.items)
