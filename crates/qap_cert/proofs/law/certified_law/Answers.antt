use Rattle.qap_cert.proofs.Validity.{Certifies-NoneCostsLess, Certifies-IsLeast}
use Rattle.qap_cert.proofs.law.certified_law.Goals as goal

pub returns-clause-bound : goal.returns-clause-bound
returns-clause-bound c = Certifies-NoneCostsLess

pub returns-clause-least : goal.returns-clause-least
returns-clause-least c = Certifies-IsLeast
