use Rattle.qap_search.proofs.LawLemmas.Replacing.{opening}
use Rattle.qap_search.proofs.law.opening_law.Goals as goal

pub returns : goal.returns
returns c = opening
