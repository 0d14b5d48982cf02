use Rattle.qap_search.proofs.CertificateLemmas.StoppedLaws.{stopped_certifies, stopped_closed_before, stopped_counted, stopped_no_dearer, stopped_not_refused}
use Rattle.qap_search.proofs.law.stopped_law.Goals as goal

pub returns-clause-certifies : goal.returns-clause-certifies
returns-clause-certifies c = stopped_certifies

pub returns-clause-no_dearer : goal.returns-clause-no_dearer
returns-clause-no_dearer c = stopped_no_dearer

pub returns-clause-closed_before : goal.returns-clause-closed_before
returns-clause-closed_before c = stopped_closed_before

pub returns-clause-counted : goal.returns-clause-counted
returns-clause-counted c = stopped_counted

pub returns-clause-not_refused : goal.returns-clause-not_refused
returns-clause-not_refused c = stopped_not_refused
