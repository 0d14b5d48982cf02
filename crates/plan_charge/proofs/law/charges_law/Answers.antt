use Rattle.plan_charge.proofs.Charged.{cost_of-extended}
use Rattle.plan_charge.proofs.Extensions.{extended-Completes, front-Completes, front-extended}
use Rattle.plan_charge.proofs.law.charges_law.Goals as goal

pub returns-clause-shorter : goal.returns-clause-shorter
returns-clause-shorter c = λ count x y q placement extended completes. (front-Completes count x y q placement extended completes, front-extended count x y q placement extended completes)

pub returns-clause-longer : goal.returns-clause-longer
returns-clause-longer c = extended-Completes

pub returns-clause-cost : goal.returns-clause-cost
returns-clause-cost c = cost_of-extended
