use Rattle.proof_tree.proofs.Leaves.{HasLeaves-valid, IsCovering-leaves}
use Rattle.proof_tree.proofs.law.leaves_law.Goals as goal

pub returns : goal.returns
returns c = record {
  valid = λ I step bound cost y above t ls h. HasLeaves-valid t I step bound cost y above ls h;
  covers = IsCovering-leaves;
}
