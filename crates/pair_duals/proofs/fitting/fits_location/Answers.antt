use Rattle.std.proofs.Common.{arith, rules, below_more, refl}
use Rattle.pair_duals.proofs.fitting.fits_location.Goals as goal

pub loop-j-preserved : goal.loop-j-preserved
loop-j-preserved g c = below_more _ c.loop-j.j c.loop-j.invariant (c.fits_facility.ensures.0 (search rules))

pub returns : goal.returns
returns g c = (
  λ t. record { below = λ i j l hi hj hl kl. (c.loop-j.invariant j (omega (arith, c.free-m.ensures.value))).below i l hi hl kl },
  λ fit. refl,
)
