use Rattle.qap_search.proofs.runs.threads.search.Goals as goal

pub returns-clause-ended : goal.returns-clause-ended
returns-clause-ended g c = rw c.requires.limit at (c.run_out.ensures.ended _ c.requires.law)
