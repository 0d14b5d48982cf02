use Rattle.shared_space.proofs.RunLemmas.{acts_counted}
use Rattle.shared_space.proofs.laws.run_law.Goals as goal

pub returns : goal.returns
returns c = acts_counted
