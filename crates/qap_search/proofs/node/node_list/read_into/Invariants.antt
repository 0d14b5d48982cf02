use Rattle.number_list.specs.Numbers.{numbers_in}
use Rattle.qap_search.proofs.NodeLemmas.NodeLists.{HasPlaced}
use Rattle.qap_search.proofs.node.node_list.read_into.Given as goal

abbrev pub invariant-loop-t : goal.invariant-loop-t
invariant-loop-t l = HasPlaced l.fn.n (numbers_in l.list) l.node l.t
