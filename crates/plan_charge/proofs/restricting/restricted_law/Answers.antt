use Rattle.plan_charge.proofs.Restrictions.{IsCharged-found, longer-allowed, shorter-is}
use Rattle.plan_charge.proofs.restricting.restricted_law.Goals as goal

pub returns-clause-found : goal.returns-clause-found
returns-clause-found c = IsCharged-found

pub returns-clause-longer : goal.returns-clause-longer
returns-clause-longer c = λ I J x y old f p r allowed. (longer-allowed I J x y old f p r allowed).0

pub returns-clause-shorter : goal.returns-clause-shorter
returns-clause-shorter c = shorter-is
