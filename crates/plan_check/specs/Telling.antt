-- The report on an answer to a plan.
use Rattle.std.specs.Prelude.{ℕ, ℤ, List}
use Rattle.qap_cost.specs.Objective.{cost_of}
use Rattle.plan_answer.specs.Answer.{IsVerdictText}
use Rattle.plan_check.specs.Proved.{IsProvedBound}
use Rattle.plan_file.specs.declared.tables.NamedProblem.{NamedProblem}

-- the line reports what the proof establishes about the permutation's cost
pub record TellsProved (P : NamedProblem) (p : List ℕ) (proof line : List ℕ) : Type 0 where
  pub bound : ℤ
  pub proved : IsProvedBound P.instance P.fixed (cost_of P.instance p) proof bound
  pub told : IsVerdictText P (cost_of P.instance p) bound line
