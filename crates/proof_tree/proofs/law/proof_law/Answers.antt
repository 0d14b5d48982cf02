use Rattle.proof_tree.proofs.Validity.{Proves-IsLeast, Proves-NoneCompletesForLess}
use Rattle.proof_tree.proofs.law.proof_law.Goals as goal

pub returns : goal.returns
returns c = record {
  bound = Proves-NoneCompletesForLess;
  least = Proves-IsLeast;
}
