-- Proofs of a whole in either version, to which proofs of parts can be added.
use Rattle.std.specs.Prelude.{◌≡◌, ◌⊎◌, ℕ, List, None}
use Rattle.qap_cost.specs.Instance.{Problem}
use Rattle.pair_duals.specs.CostStep.{step_of}
use Rattle.qap_proof.specs.Cover.{CoverValue, IsOpened}
use Rattle.proof_tree.specs.Claim.{IsPairProofText, PairClaim, PairProves}
use Rattle.proof_tree.specs.Leaves.{HasLeaves}

-- the text is the proof with pair duals of the whole, without parts, and the leaves are those of its tree with values below its cost
pub record PairsOpen (I : Problem) (text : List ℕ) (c : CoverValue) : Type 0 where
  pub proof : PairClaim
  pub is_text : IsPairProofText text proof
  pub proved : PairProves I proof
  pub instance : c.instance ≡ I
  pub root : c.root ≡ proof.root
  pub cost : c.cost ≡ proof.cost
  pub leaves : HasLeaves I (step_of I) proof.bound proof.cost proof.root None proof.tree c.leaves

-- likewise for either version; in version 1 the leaves are all of its tree's
abbrev pub EitherOpens : Problem → List ℕ → CoverValue → Type 0
EitherOpens I text c = IsOpened I text c ⊎ PairsOpen I text c
