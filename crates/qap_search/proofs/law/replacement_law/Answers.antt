use Rattle.qap_search.proofs.LawLemmas.Replacing.{replacement}
use Rattle.qap_search.proofs.law.replacement_law.Goals as goal

pub returns : goal.returns
returns c = replacement
