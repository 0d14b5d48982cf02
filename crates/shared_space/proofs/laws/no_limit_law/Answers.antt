use Rattle.shared_space.proofs.UnderLaw.{machine_step, step_within}
use Rattle.shared_space.proofs.laws.no_limit_law.Goals as goal

pub returns : goal.returns
returns c = record { machine = machine_step; within = step_within }
