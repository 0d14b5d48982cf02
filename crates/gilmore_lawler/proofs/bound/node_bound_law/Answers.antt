use Rattle.gilmore_lawler.proofs.Completions.{fixed_and_duals-le}
use Rattle.gilmore_lawler.proofs.bound.node_bound_law.Goals as goal

pub returns : goal.returns
returns c = fixed_and_duals-le
