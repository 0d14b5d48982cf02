use Rattle.std.proofs.Common.{◌≡◌, ◌<◌, ◌≤◌, ◌*◌, ◌^◌, arith, subst, sym}
use Rattle.plan_file.proofs.Roots.{power_positive, power_small}
use Rattle.plan_file.proofs.metric.power_of_hundred.Goals as goal

pub returns-clause-positive : goal.returns-clause-positive
returns-clause-positive c = subst (λ x. 0 < x) (sym c.pow.ensures) (power_positive c.args.k)

pub returns-clause-small : goal.returns-clause-small
returns-clause-small c = subst (λ x. x ≤ 10 ^ 18) (sym c.pow.ensures) (power_small c.args.k c.requires)
