use Rattle.std.proofs.Common.{arith}
use Rattle.std.proofs.lemmas.Int.{ints}
use Rattle.assign_dual.proofs.shift.lowered.Goals as goal

pub returns : goal.returns
returns g c = omega (arith, ints, c.plus.ensures, c.minus.ensures)
