use Rattle.qap_search.proofs.CertificateLemmas.AcceptedTexts.{only_shown, text_not_refused, text_shown}
use Rattle.qap_search.proofs.law.accepted_law.Goals as goal

pub returns-clause-shown : goal.returns-clause-shown
returns-clause-shown c = text_shown

pub returns-clause-only : goal.returns-clause-only
returns-clause-only c = only_shown

pub returns-clause-not_refused : goal.returns-clause-not_refused
returns-clause-not_refused c = text_not_refused
