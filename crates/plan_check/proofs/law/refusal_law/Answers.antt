use Rattle.plan_check.proofs.Exclusions.{no_answer_to_instance, no_answer_to_plan}
use Rattle.plan_check.proofs.law.refusal_law.Goals as goal

pub returns : goal.returns
returns c = record { plan = no_answer_to_plan; instance = no_answer_to_instance }
