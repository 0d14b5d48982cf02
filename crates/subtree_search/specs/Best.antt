-- The incumbent and its cost.
use Rattle.std.specs.Prelude.{◌≡◌, ℕ, List, ℤ}
use Rattle.qap_cost.specs.Instance.{Problem}
use Rattle.qap_cost.specs.Objective.{Permutes, cost_of}

-- a permutation and a cost
pub record Best : Type 0 where
  pub permutation : List ℕ
  pub cost : ℤ

-- of the instance, with its cost there
pub record IsIncumbent (I : Problem) (b : Best) : Type 0 where
  pub permutes : Permutes I b.permutation
  pub cost : b.cost ≡ cost_of I b.permutation
