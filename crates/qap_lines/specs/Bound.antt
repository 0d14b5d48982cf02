-- Bounds stated with a cost.
use Rattle.std.specs.Prelude.{ℤ, ◌≤ℤ◌}
use Rattle.qap_cost.specs.Range.{IsLimited}

-- g is a number from -10^24 to 10^24 that is at most the cost
pub record IsBoundFor (c g : ℤ) : Type 0 where
  pub limited : IsLimited g
  pub at_most : g ≤ℤ c
