-- Proofs over a known root.
use Rattle.std.specs.Prelude.{◌≢◌, ℕ, List, ℤ}
use Rattle.qap_cost.specs.Instance.{Problem}
use Rattle.qap_cost.specs.Placement.{Placement}
use Rattle.qap_proof.specs.Acceptance.{ProvesFor}

-- the text is that of a proof over another root, which proves its bound
pub record ProvesForAnother (I : Problem) (text : List ℕ) (x : Placement) : Type 0 where
  pub other : Placement
  pub cost : ℤ
  pub bound : ℤ
  pub proves : ProvesFor I text other cost bound
  pub differs : other ≢ x
