use Rattle.std.proofs.Common.{arith}
use Rattle.std.proofs.lemmas.Int.{ints}
use Rattle.pair_duals.proofs.Forms.{IsNonNegative-child}
use Rattle.pair_duals.proofs.law.child_law.Goals as goal

pub returns : goal.returns
returns c = record {
  entries = IsNonNegative-child;
  value = λ I D old new h g hh hg least c. omega (arith, ints, c.value, least.each h g hh hg);
}
