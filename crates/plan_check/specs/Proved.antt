-- What a proof establishes about the arrangements that respect what is fixed.
use Rattle.std.specs.Prelude.{◌≡◌, ◌≢◌, ◌⊎◌, ◌↔◌, ℕ, ℤ, List}
use Rattle.qap_cost.specs.Instance.{Problem}
use Rattle.qap_cost.specs.Objective.{Permutes, cost_of}
use Rattle.qap_cost.specs.Placement.{Completes, Placement}
use Rattle.qap_proof.specs.Claim.{NoneCompletesForLess}
use Rattle.qap_proof.specs.declared.error.ProofError.TheVariants as proof_error
use Rattle.proof_versions.specs.OverRoot.{EitherProvesFor, EitherProvesForAnother}
use Rattle.proof_versions.specs.Versions.{EitherIsRefused}
use Rattle.plan_check.specs.declared.fault.ProofFault.{ProofFault}
use Rattle.plan_check.specs.declared.fault.ProofFault.TheVariants.{OtherCost, OtherRoot, OutOfMemory, Refused}

-- the text is that of a proof, in either version, with this cost, over a node with the same completions as what is fixed; so none of these
-- costs less than g
pub record IsProvedBound (I : Problem) (x : Placement) (c : ℤ) (text : List ℕ) (g : ℤ) : Type 0 where
  pub root : Placement
  pub same : (p : List ℕ) → Completes x p ↔ Completes root p
  pub proves : EitherProvesFor I text root c g
  pub none_less : NoneCompletesForLess I x g

-- why a text establishes nothing about the completions of a node: it is refused as a proof, or is over another node
abbrev pub IsUnprovedOver : Problem → Placement → List ℕ → ProofFault → Type 0
IsUnprovedOver I root text (Refused e) = (e ≡ proof_error.OutOfMemory) ⊎ EitherIsRefused I text e
IsUnprovedOver I root text OtherRoot = EitherProvesForAnother I text root
IsUnprovedOver I root text (OtherCost told) = ⊥
IsUnprovedOver I root text OutOfMemory = Unit {0}

-- the text is that of a proof over this node, with another cost
pub record HasAnotherCost (I : Problem) (root : Placement) (c : ℤ) (text : List ℕ) : Type 0 where
  pub cost : ℤ
  pub bound : ℤ
  pub proves : EitherProvesFor I text root cost bound
  pub other : cost ≢ c

-- why it establishes nothing about a permutation of cost c that respects what is fixed: either as above, over a node with the same
-- completions, or it is a proof over that node with another cost
abbrev pub IsUnproved : Problem → Placement → ℤ → List ℕ → ProofFault → Type 0
IsUnproved I x c text (OtherCost told) = (root : Placement) × ((p : List ℕ) → Completes x p ↔ Completes root p) × HasAnotherCost I root c text
IsUnproved I x c text OutOfMemory = Unit {0}
IsUnproved I x c text fault = (root : Placement) × ((p : List ℕ) → Completes x p ↔ Completes root p) × IsUnprovedOver I root text fault

-- some permutation that respects what is fixed costs c, and none that does costs less
pub record IsLeastKept (I : Problem) (x : Placement) (c : ℤ) : Type 0 where
  pub reached : (p : List ℕ) × Permutes I p × Completes x p × (cost_of I p ≡ c)
  pub least : NoneCompletesForLess I x c
