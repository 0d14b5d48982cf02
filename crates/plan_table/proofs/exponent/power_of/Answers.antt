use Rattle.std.proofs.Common.{[], arith, refl}
use Rattle.plan_table.proofs.Roundings.{power-small}
use Rattle.plan_table.proofs.exponent.power_of.Goals as goal

pub overflow_cast-result : goal.overflow_cast-result
overflow_cast-result c = omega (arith, c.followed_by.ensures.value [] refl, power-small c.args.digits.now c.requires)

pub returns-clause-value : goal.returns-clause-value
returns-clause-value c = omega (arith, c.followed_by.ensures.value [] refl, power-small c.args.digits.now c.requires)

pub returns-clause-small : goal.returns-clause-small
returns-clause-small c = omega (arith, c.followed_by.ensures.value [] refl, power-small c.args.digits.now c.requires)
