use Rattle.std.proofs.Common.{arith, rules, below_more, refl}
use Rattle.pair_duals.proofs.fitting.fits_facility.Goals as goal

pub loop-i-preserved : goal.loop-i-preserved
loop-i-preserved g c = below_more _ c.loop-i.i c.loop-i.invariant (c.fits_pair.ensures.0 (search rules))

pub returns : goal.returns
returns g c = (
  λ t. record { below = λ i l hi hl kl. (c.loop-i.invariant i (omega arith)).below l hl kl },
  λ fit. refl,
)
