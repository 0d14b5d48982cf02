use Rattle.std.specs.Prelude.{None}
use Rattle.proof_tree.proofs.Validity.{Valid-NoneCompletesForLess, Valid-NoneCostsLess}
use Rattle.proof_tree.proofs.law.tree_law.Goals as goal

pub returns : goal.returns
returns c = record {
  root = λ I step bound x t is same divides valid. Valid-NoneCompletesForLess I step bound x None t is same divides tt valid;
  whole = Valid-NoneCostsLess;
}
