use Rattle.qap_search.proofs.WorkerLemmas.Standings.{found_node}
use Rattle.qap_search.proofs.worker.turn.take_node.Goals as goal

pub returns-clause-stage : goal.returns-clause-stage
returns-clause-stage g c = λ I last instance law.
    c.told_node.ensures.stage I last (found_node I g.L.Law.lawful g.L.Law.allowed c.args.txn c.inp_in-found.new.txn _ c.does_match_law.ensures instance law c.requires.marks c.requires.writes (rw c.requires.template at c.inp_in-found.ensures.marks))
