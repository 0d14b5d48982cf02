-- The existing proof of a part.
use Rattle.std.specs.Prelude.{◌⊎◌, ◌≤ℤ◌, ℕ, List, ℤ}
use Rattle.qap_cost.specs.Instance.{Problem}
use Rattle.qap_cost.specs.Placement.{Placement}
use Rattle.qap_proof.specs.declared.over_root.Stated.{Stated}
use Rattle.proof_versions.specs.OverRoot.{EitherProvesFor}

-- the bound g reaches the cost c of the proof's own permutation, or the given cost
abbrev pub IsComplete : ℤ → ℤ → ℤ → Type 0
IsComplete c g cost = (c ≤ℤ g) ⊎ (cost ≤ℤ g)

-- the text is that of a proof in either version over the node, which proves its bound; and it is complete for a permutation of this cost
pub record IsStanding (I : Problem) (x : Placement) (cost : ℤ) (text : List ℕ) (s : Stated) : Type 0 where
  pub proves : EitherProvesFor I text x s.cost s.bound
  pub complete : IsComplete s.cost s.bound cost
