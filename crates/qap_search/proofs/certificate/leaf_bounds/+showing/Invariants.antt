use Rattle.std.proofs.Common.{◌+◌, ◌*◌, drop}
use Rattle.qap_cert.specs.Tree.{node_of, nodes_of, node_count, nodes_count}
use Rattle.qap_search.proofs.CertificateLemmas.LeafBounds.{HaveShown}
use Rattle.qap_search.proofs.certificate.leaf_bounds.+showing.Given as goal

abbrev pub decreases-least_shown : goal.decreases-least_shown
decreases-least_shown l = 2 * node_count (node_of l.tree.now)

abbrev pub decreases-least_shown_by_all : goal.decreases-least_shown_by_all
decreases-least_shown_by_all l = 2 * nodes_count (nodes_of l.children.now) + 1

abbrev pub invariant-least_shown_by_all-loop-i : goal.invariant-least_shown_by_all-loop-i
invariant-least_shown_by_all-loop-i l =
    HaveShown l.instance l.node l.facility l.least l.found l.locations (nodes_of l.children) (drop l.i l.locations) (nodes_of (drop l.i l.children))
