use Rattle.std.proofs.Common.{arith}
use Rattle.dual_ascent.proofs.range.are_small.Goals as goal

pub returns : goal.returns
returns c = (
  λ t. record { each = λ i j k l hi hj hk hl. let h = (c.is_in_scale.ensures.0 t).below i j k l hi hj hk hl in omega (arith, h) },
  λ small. c.is_in_scale.ensures.1 (record { below = λ i j k l hi hj hk hl. let h = small.each i j k l hi hj hk hl in omega (arith, h) }),
)
