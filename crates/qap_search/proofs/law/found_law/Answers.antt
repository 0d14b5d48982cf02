use Rattle.qap_search.proofs.TupleLemmas.Found.{best_found_there, node_found}
use Rattle.qap_search.proofs.law.found_law.Goals as goal

pub returns-clause-node : goal.returns-clause-node
returns-clause-node c = node_found

pub returns-clause-best : goal.returns-clause-best
returns-clause-best c = best_found_there
