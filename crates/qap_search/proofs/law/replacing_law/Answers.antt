use Rattle.qap_search.proofs.NodeLemmas.Deciding.{replaces_read, replaces_taken}
use Rattle.qap_search.proofs.law.replacing_law.Goals as goal

pub returns-clause-read : goal.returns-clause-read
returns-clause-read c = replaces_read

pub returns-clause-taken : goal.returns-clause-taken
returns-clause-taken c = replaces_taken
