-- Numbers indexed by two facilities or locations.
use Rattle.std.specs.Prelude.{ℕ, ℤ}
use Rattle.qap_cost.specs.Instance.{Problem, entry}
use Rattle.pair_duals.specs.CostStep.{both_ways}
use Rattle.pair_duals.specs.declared.step.Numbers.{Numbers}
use Rattle.pair_duals.specs.declared.step.Numbers.TheVariants.{A, B, SumsOfA, SumsOfB}

-- the number at i and j
abbrev pub number_at : Problem → Numbers → ℕ → ℕ → ℤ
number_at I A = entry I.size I.a
number_at I B = entry I.size I.b
number_at I SumsOfA = both_ways (entry I.size I.a)
number_at I SumsOfB = both_ways (entry I.size I.b)
