-- Proofs in either version over a known root.
use Rattle.std.specs.Prelude.{◌≡◌, ◌≢◌, ◌⊎◌, ℕ, List, ℤ}
use Rattle.qap_cost.specs.Instance.{Problem}
use Rattle.qap_cost.specs.Placement.{Placement}
use Rattle.qap_proof.specs.Acceptance.{ProvesFor}
use Rattle.proof_tree.specs.Claim.{IsPairProofText, PairClaim, PairProves}

-- the text is that of a proof with pair duals with this root, cost and bound, which it proves
pub record PairProvesFor (I : Problem) (text : List ℕ) (x : Placement) (c g : ℤ) : Type 0 where
  pub proof : PairClaim
  pub is_text : IsPairProofText text proof
  pub proved : PairProves I proof
  pub root : proof.root ≡ x
  pub cost : proof.cost ≡ c
  pub bound : proof.bound ≡ g

-- likewise for either version
abbrev pub EitherProvesFor : Problem → List ℕ → Placement → ℤ → ℤ → Type 0
EitherProvesFor I text x c g = ProvesFor I text x c g ⊎ PairProvesFor I text x c g

-- the text is that of a proof in either version over another root, which proves its bound
pub record EitherProvesForAnother (I : Problem) (text : List ℕ) (x : Placement) : Type 0 where
  pub other : Placement
  pub cost : ℤ
  pub bound : ℤ
  pub proves : EitherProvesFor I text other cost bound
  pub differs : other ≢ x
