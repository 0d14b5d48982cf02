use Rattle.std.specs.Prelude.{◌+◌, ◌-◌, ◌*◌, length}
use Rattle.qap_cert.proofs.Readings.{HaveRead}
use Rattle.qap_cert.specs.Tree.{nodes_of}
use Rattle.qap_cert.proofs.tree_reader.+reading.Given as goal

abbrev pub decreases-read_children : goal.decreases-read_children
decreases-read_children l = 2 * (l.grammar.size - length l.placed.now) + 2

abbrev pub decreases-read_tree : goal.decreases-read_tree
decreases-read_tree l = 2 * (l.grammar.size - length l.placed.now) + 1

abbrev pub invariant-read_children-loop : goal.invariant-read_children-loop
invariant-read_children-loop l = HaveRead l.fn.grammar.version l.fn.grammar.size l.fn.placed l.fn.line l.fn.text (nodes_of l.trees.items) l.counter l.rest l.next
