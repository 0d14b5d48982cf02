use Rattle.qap_search.proofs.CertificateLemmas.Certificates.{certificate_certifies, certificate_counted, certificate_there}
use Rattle.qap_search.proofs.law.certificate_law.Goals as goal

pub returns-clause-there : goal.returns-clause-there
returns-clause-there c = certificate_there

pub returns-clause-certifies : goal.returns-clause-certifies
returns-clause-certifies c = certificate_certifies

pub returns-clause-counted : goal.returns-clause-counted
returns-clause-counted c = certificate_counted
